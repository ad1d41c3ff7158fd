-- The first broken condition of an entry: what each test says of it, in any list of conditions, and for the conditions of
-- a table.
use mathlib.Core.Path.{◌≡◌, refl, sym, ap, ◌∙◌, subst⁻¹}
use mathlib.Core.Bool.{Bool, true, false, cond, not, ◌&&◌}
use mathlib.Core.List.{List, [], ◌∷◌, ◌++◌}
use mathlib.Core.Logic.{◌⊎◌, inl, inr}
use Prim.Native.Nat.{ℕ, ◌<◌, ◌≤◌}
use native.Mathlib.Omega.{arith}
use lib.Dec.{eqb, leb, ltb}
use lib.ListN.{length}
use borrow.Author.Tests.{leb-true, eqb-true, eqb-false, ltb-true, le-leb, lt-leb, eq-eqb, not-true}
use Rattle.std.specs.Prelude.{Result, Ok, Err}
use Rattle.std.specs.Result.{IsErrAnd}
use Rattle.rule.specs.Refusal.{Condition, first_broken, passed, columns_over, table_over, record_broken}
use Rattle.rule.proofs.Refusals.{passed_ok}
use Rattle.rule.proofs.Bools.{and_left, and_right, and_intro, which, must_be_false}
use Rattle.graph.specs.Table.{table_of, good_table}
use Rattle.graph.specs.Sound.{Sized, Sound}
use Rattle.graph.specs.Entry.{table_conditions}

pub none-broken : first_broken [] ≡ 0
unfolding first_broken
none-broken = refl

module _ (c : Condition) (cs : List Condition) where
  -- A broken condition is the first; a kept one leaves it to the next.
  pub broken-here : c.kept ≡ false → first_broken (c ∷ cs) ≡ c.number
  unfolding first_broken
  broken-here e = ap (λ b. cond b (first_broken cs) c.number) e

  pub kept_next : c.kept ≡ true → first_broken (c ∷ cs) ≡ first_broken cs
  unfolding first_broken
  kept_next e = ap (λ b. cond b (first_broken cs) c.number) e

  -- Where none is broken, each is kept.
  pub first-kept : (c.number ≡ 0 → ⊥) → first_broken (c ∷ cs) ≡ 0 → c.kept ≡ true
  first-kept n e = go (which c.kept)
    where
      go : (c.kept ≡ true) ⊎ (c.kept ≡ false) → c.kept ≡ true
      go (inl t) = t
      go (inr f) = absurd (n (sym (broken-here f) ∙ e))

  pub others_kept : (c.number ≡ 0 → ⊥) → first_broken (c ∷ cs) ≡ 0 → first_broken cs ≡ 0
  others_kept n e = sym (kept_next (first-kept n e)) ∙ e

-- Whether no condition has a number.
abbrev pub unused : ℕ → List Condition → Bool
unused r [] = true
unused r (c ∷ cs) = not (eqb c.number r) && unused r cs

other_number : (r : ℕ) (c : Condition) (cs : List Condition) → unused r (c ∷ cs) ≡ true → c.number ≡ r → ⊥
other_number r c cs u =
    eqb-false c.number r (not-true (eqb c.number r) (and_left (not (eqb c.number r)) (unused r cs) u))

others_unused : (r : ℕ) (c : Condition) (cs : List Condition) → unused r (c ∷ cs) ≡ true → unused r cs ≡ true
others_unused r c cs u = and_right (not (eqb c.number r)) (unused r cs) u

-- The first broken condition has one of the numbers.
pub not_broken : (r : ℕ) → (r ≡ 0 → ⊥) → (cs : List Condition) → unused r cs ≡ true → first_broken cs ≡ r → ⊥
not_broken r n [] u e = n (sym e ∙ none-broken)
not_broken r n (c ∷ cs) u e = go (which c.kept) (not_broken r n cs (others_unused r c cs u))
  where
    go : (c.kept ≡ true) ⊎ (c.kept ≡ false) → (first_broken cs ≡ r → ⊥) → ⊥
    go (inl t) ih = ih (sym (kept_next c cs t) ∙ e)
    go (inr f) ih = other_number r c cs u (sym (broken-here c cs f) ∙ e)

-- Conditions that stand before others: the first that they break is the first of all, and if they break none the others
-- decide.
pub broken-before : (cs : List Condition) (ds : List Condition) (r : ℕ) → (r ≡ 0 → ⊥) → first_broken cs ≡ r → first_broken (cs ++ ds) ≡ r
broken-before [] ds r n e = absurd (n (sym e ∙ none-broken))
broken-before (c ∷ cs) ds r n e = go (which c.kept) (broken-before cs ds r n)
  where
    go : (c.kept ≡ true) ⊎ (c.kept ≡ false) → (first_broken cs ≡ r → first_broken (cs ++ ds) ≡ r) → first_broken (c ∷ cs ++ ds) ≡ r
    go (inl t) ih = kept_next c (cs ++ ds) t ∙ ih (sym (kept_next c cs t) ∙ e)
    go (inr f) ih = broken-here c (cs ++ ds) f ∙ sym (broken-here c cs f) ∙ e

pub kept-before : (cs : List Condition) (ds : List Condition) → unused 0 cs ≡ true → first_broken cs ≡ 0 → first_broken (cs ++ ds) ≡ first_broken ds
kept-before [] ds u e = refl
kept-before (c ∷ cs) ds u e =
    let n = other_number 0 c cs u in
    kept_next c (cs ++ ds) (first-kept c cs n e) ∙ kept-before cs ds (others_unused 0 c cs u) (others_kept c cs n e)

-- Where conditions and others after them are all kept, they are.
pub before-kept : (cs : List Condition) (ds : List Condition) → first_broken (cs ++ ds) ≡ 0 → first_broken cs ≡ 0
before-kept cs ds e = go (which (eqb (first_broken cs) 0))
  where
    go : (eqb (first_broken cs) 0 ≡ true) ⊎ (eqb (first_broken cs) 0 ≡ false) → first_broken cs ≡ 0
    go (inl t) = eqb-true (first_broken cs) 0 t
    go (inr f) = let d = eqb-false (first_broken cs) 0 f in sym (broken-before cs ds (first_broken cs) d refl) ∙ e

-- Every number of some conditions is below a bound, and so is that of the first broken one.
abbrev pub all_below : ℕ → List Condition → Bool
all_below b [] = true
all_below b (c ∷ cs) = ltb c.number b && all_below b cs

pub broken_below : (b : ℕ) → 0 < b → (cs : List Condition) → all_below b cs ≡ true → first_broken cs < b
broken_below b z [] u = subst⁻¹ (λ x. x < b) none-broken z
broken_below b z (c ∷ cs) u = go (which c.kept) (broken_below b z cs (and_right (ltb c.number b) (all_below b cs) u))
  where
    go : (c.kept ≡ true) ⊎ (c.kept ≡ false) → first_broken cs < b → first_broken (c ∷ cs) < b
    go (inl t) ih = subst⁻¹ (λ x. x < b) (kept_next c cs t) ih
    go (inr f) ih = subst⁻¹ (λ x. x < b) (broken-here c cs f) (ltb-true c.number b (and_left (ltb c.number b) (all_below b cs) u))

-- The test of a table's sizes.
abbrev sizes_test : ℕ → List ℕ → List ℕ → List ℕ → Bool
sizes_test c v l h = eqb (length l) (length v) && eqb (length h) (length v) && leb (length v) 4096 && leb c (length v)

module _ (c : ℕ) (v : List ℕ) (l : List ℕ) (h : List ℕ) where
  sized_passes : Sized c v l h → sizes_test c v l h ≡ true
  sized_passes s =
      and_intro (eqb (length l) (length v) && eqb (length h) (length v) && leb (length v) 4096) (leb c (length v))
      (and_intro (eqb (length l) (length v) && eqb (length h) (length v)) (leb (length v) 4096)
      (and_intro (eqb (length l) (length v)) (eqb (length h) (length v)) (eq-eqb (length l) (length v) s.low) (eq-eqb (length h) (length v) s.high))
      (le-leb (length v) 4096 s.room))
      (le-leb c (length v) s.count)

  passes_sized : sizes_test c v l h ≡ true → Sized c v l h
  passes_sized e =
      let first3 = and_left (eqb (length l) (length v) && eqb (length h) (length v) && leb (length v) 4096) (leb c (length v)) e in
      let first2 = and_left (eqb (length l) (length v) && eqb (length h) (length v)) (leb (length v) 4096) first3 in
      record {
        count = leb-true c (length v) (and_right (eqb (length l) (length v) && eqb (length h) (length v) && leb (length v) 4096) (leb c (length v)) e);
        low = eqb-true (length l) (length v) (and_left (eqb (length l) (length v)) (eqb (length h) (length v)) first2);
        high = eqb-true (length h) (length v) (and_right (eqb (length l) (length v)) (eqb (length h) (length v)) first2);
        room = leb-true (length v) 4096 (and_right (eqb (length l) (length v) && eqb (length h) (length v)) (leb (length v) 4096) first3);
      }

-- Refusals 1, 2, 3 of a table, and none.
module _ (n : ℕ) (c : ℕ) (v : List ℕ) (l : List ℕ) (h : List ℕ) where
  abbrev columns_kept : Condition
  columns_kept = record { number = columns_over; kept = leb n 16 }

  abbrev sizes_kept : Condition
  sizes_kept = record { number = table_over; kept = sizes_test c v l h }

  abbrev records_kept : Condition
  records_kept = record { number = record_broken; kept = good_table n (table_of v l h) c }

  pub columns-broken : 16 < n → first_broken (table_conditions n c v l h) ≡ columns_over
  unfolding table_conditions
  columns-broken e = broken-here columns_kept (sizes_kept ∷ records_kept ∷ []) (lt-leb n 16 e)

  past_columns : n ≤ 16 → first_broken (table_conditions n c v l h) ≡ first_broken (sizes_kept ∷ records_kept ∷ [])
  unfolding table_conditions
  past_columns e = kept_next columns_kept (sizes_kept ∷ records_kept ∷ []) (le-leb n 16 e)

  pub sizes_broken : n ≤ 16 → (Sized c v l h → ⊥) → first_broken (table_conditions n c v l h) ≡ table_over
  sizes_broken e b =
      past_columns e ∙
      broken-here sizes_kept (records_kept ∷ []) (must_be_false (sizes_test c v l h) (λ t. b (passes_sized c v l h t)))

  past_sizes : n ≤ 16 → Sized c v l h → first_broken (table_conditions n c v l h) ≡ first_broken (records_kept ∷ [])
  past_sizes e s = past_columns e ∙ kept_next sizes_kept (records_kept ∷ []) (sized_passes c v l h s)

  pub records_broken : n ≤ 16 → Sized c v l h → good_table n (table_of v l h) c ≡ false → first_broken (table_conditions n c v l h) ≡ record_broken
  records_broken e s f = past_sizes e s ∙ broken-here records_kept [] f

  pub sound_unbroken : Sound n c v l h → first_broken (table_conditions n c v l h) ≡ 0
  sound_unbroken s = past_sizes s.columns s.sized ∙ kept_next records_kept [] s.good ∙ none-broken

  pub unbroken_sound : (r : ℕ) → r ≡ first_broken (table_conditions n c v l h) → r ≡ 0 → Sound n c v l h
  unfolding table_conditions
  unbroken_sound r e z =
      let e1 = others_kept columns_kept (sizes_kept ∷ records_kept ∷ []) (λ q. omega arith) (sym e ∙ z) in
      let e2 = others_kept sizes_kept (records_kept ∷ []) (λ q. omega arith) e1 in
      record {
        sized = passes_sized c v l h (first-kept sizes_kept (records_kept ∷ []) (λ q. omega arith) e1);
        columns = leb-true n 16 (first-kept columns_kept (sizes_kept ∷ records_kept ∷ []) (λ q. omega arith) (sym e ∙ z));
        good = first-kept records_kept [] (λ q. omega arith) e2;
      }

  -- What is known past the test of a table.
  module _ (u : Unit) (e : Ok u ≡ passed (first_broken (table_conditions n c v l h))) where
    pub passed_none : first_broken (table_conditions n c v l h) ≡ 0
    passed_none = passed_ok (first_broken (table_conditions n c v l h)) u (sym e)

    pub passed_sound : Sound n c v l h
    passed_sound = unbroken_sound (first_broken (table_conditions n c v l h)) refl passed_none

    pub passed_count : c ≤ 4096
    passed_count = let s = passed_sound.sized in omega (arith, s.count, s.room)

-- What the exit of a `?` returns, where the error is passed on as it is.
pub passed_on : {A : Type 0} {E : Type 0} (r : Result A E) (e : E) → IsErrAnd r (λ x. x ≡ e) → r ≡ Err e
passed_on (Ok a) e h = absurd h
passed_on (Err x) e h = ap Err h
