-- Refusals and their numbers: each tells the other. What a test of conditions answers, and a number that is 0 where there is
-- none, by cases.
use mathlib.Core.Path.{◌≡◌, refl, sym, ap, ap₂, ◌∙◌}
use mathlib.Core.Bool.{Bool, true, false, cond, ◌&&◌, and-eq-true_iff}
use mathlib.Core.List.{List, [], ◌∷◌, ◌++◌}
use mathlib.Core.Logic.{◌≢◌}
use Prim.Native.Nat.{ℕ, zero, suc, ◌<◌, ◌≤◌}
use native.Mathlib.Omega.{arith}
use lib.Dec.{leb}
use Rattle.std.specs.List.{list_all}
use Rattle.std.proofs.lemmas.List.Folds.{list_all-append}
use Rattle.std.specs.Prelude.{Some, None, Ok, Err}
use Rattle.rule.specs.Refusal.{Condition, first_broken, number_of, refusal_of, passed, some_number}
use Rattle.rule.specs.declared.refusal.Refusal.{Refusal}
use Rattle.rule.specs.declared.refusal.Refusal.TheVariants.{ColumnsOver, TableOver, RecordBroken, OutOfRange, NotWithin, ListOver, NodesLack, ListLacks, CubeMalformed, TextOver, TextFault, OnAndOff, TextLacks}

-- A refusal's number tells it.
pub numbered : (r : Refusal) → refusal_of (number_of r) ≡ r
unfolding refusal_of
numbered ColumnsOver = refl
numbered TableOver = refl
numbered RecordBroken = refl
numbered OutOfRange = refl
numbered NotWithin = refl
numbered ListOver = refl
numbered NodesLack = refl
numbered ListLacks = refl
numbered CubeMalformed = refl
numbered TextOver = refl
numbered TextFault = refl
numbered OnAndOff = refl
numbered TextLacks = refl

pub number_one : (a b : Refusal) → number_of a ≡ number_of b → a ≡ b
number_one a b e = sym (numbered a) ∙ ap refusal_of e ∙ numbered b

-- Each number from 1 to 13 is a refusal's.
pub named : (r : ℕ) → 1 ≤ r → r ≤ 13 → number_of (refusal_of r) ≡ r
unfolding refusal_of
named r l h = grind arith

-- A test answers nothing exactly if its number is 0, and else the refusal with that number.
pub passed_ok : (n : ℕ) (u : Unit) → passed n ≡ Ok u → n ≡ 0
passed_ok zero u e = refl
passed_ok (suc n) u e = search e

pub passed_err : (n : ℕ) (e : Refusal) → passed n ≡ Err e → (k : ℕ) × (n ≡ suc k) × (e ≡ refusal_of n)
passed_err zero e p = let z : ⊥ = grind arith in absurd z
passed_err (suc k) e p = (k, refl, search p)

pub ok_passed : (n : ℕ) → n ≡ 0 → passed n ≡ Ok tt
ok_passed n e = ap passed e

pub err_passed : (n : ℕ) → n ≢ 0 → passed n ≡ Err (refusal_of n)
err_passed zero h = absurd (h refl)
err_passed (suc k) h = refl

-- There is a number exactly if it is not 0.
pub some_number_none : (n : ℕ) → some_number n ≡ None → n ≡ 0
some_number_none zero e = refl
some_number_none (suc n) e = search e

pub some_number_some : (n k : ℕ) → some_number n ≡ Some k → (n ≡ k) × (0 < k)
some_number_some zero k e = let z : ⊥ = grind arith in absurd z
some_number_some (suc n) k e = search (e, arith)

pub none_some_number : (n : ℕ) → n ≡ 0 → some_number n ≡ None
none_some_number n e = ap some_number e

pub some_some_number : (n : ℕ) → 0 < n → some_number n ≡ Some n
some_some_number zero h = let z : ⊥ = omega arith in absurd z
some_some_number (suc n) h = refl

-- Conditions whose numbers are all refusals': the number of the first that is broken is then a refusal's too.
abbrev pub AllNamed : List Condition → Type 0
AllNamed cs = list_all (λ c. leb 1 c.number && leb c.number 13) cs ≡ true

pub append_named : (cs ds : List Condition) → AllNamed cs → AllNamed ds → AllNamed (cs ++ ds)
append_named cs ds a b = list_all-append _ cs ds ∙ ap₂ ◌&&◌ a b

pub first_named : (cs : List Condition) (r : ℕ) → AllNamed cs → first_broken cs ≡ suc r → number_of (refusal_of (suc r)) ≡ suc r
unfolding first_broken
first_named [] r a e = let z : ⊥ = grind arith in absurd z
first_named (c ∷ cs) r a e =
    let h : ((leb 1 c.number && leb c.number 13) ≡ true) × AllNamed cs = (and-eq-true_iff _ _).0 a in
    go c.kept h.0 (first_named cs r h.1) e
  where
    go : (q : Bool) → (leb 1 c.number && leb c.number 13) ≡ true
        → (first_broken cs ≡ suc r → number_of (refusal_of (suc r)) ≡ suc r)
        → cond q (first_broken cs) c.number ≡ suc r → number_of (refusal_of (suc r)) ≡ suc r
    go true h f e = f e
    go false h f e = named (suc r) (omega arith) (grind (arith, h, e))

-- So what refuses tells the number of the first broken condition.
pub refused_named : (cs : List Condition) (e : Refusal) → AllNamed cs → passed (first_broken cs) ≡ Err e → number_of e ≡ first_broken cs
refused_named cs e a p =
    let h = passed_err (first_broken cs) e p in
    ap number_of (h.2 ∙ ap refusal_of h.1) ∙ first_named cs h.0 a h.1 ∙ sym h.1
