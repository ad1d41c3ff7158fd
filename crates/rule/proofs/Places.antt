-- The places of a set: a function is in a set if it stands at some place, at one place only where nothing repeats, and
-- additions leave it there.
use mathlib.Core.Path.{◌≡◌, refl, sym, ap, ◌∙◌}
use mathlib.Core.Bool.{Bool, true, false, cond, false≢true}
use mathlib.Core.List.{List, [], ◌∷◌}
use Prim.Native.Nat.{ℕ, zero, suc, ◌<◌}
use native.Mathlib.Omega.{arith}
use lib.ListN.{length, get_or, take, get_or-append}
use lib.Seq.{take-append_seam}
use Rattle.rule.specs.Nodes.{Tree, same_tree, has, add_all}
use Rattle.rule.proofs.Bools.{clash}
use Rattle.rule.proofs.Trees.{same_trees_equal}
use Rattle.rule.proofs.Sets.{has_first, has-second, has_itself}
use Rattle.rule.proofs.Growth.{fresh, add_all_fresh, no_repeats, no_repeats_head, no_repeats_tail}

-- A place of a set at which a function stands.
pub record Stands (S : List Tree) (t : Tree) : Type 0 where
  pub place : ℕ
  pub inside : place < length S
  pub stands : (d : Tree) → get_or S place d ≡ t

pub has_stands : (S : List Tree) (t : Tree) → has S t ≡ true → Stands S t
unfolding has
has_stands [] t e = absurd (false≢true e)
has_stands (s ∷ ss) t e = go (same_tree s t) refl e (has_stands ss t)
  where
    go : (b : Bool) → same_tree s t ≡ b → cond b true (has ss t) ≡ true → (has ss t ≡ true → Stands ss t) → Stands (s ∷ ss) t
    go true q h ih = record { place = 0; inside = omega arith; stands = λ d. same_trees_equal s t q }
    go false q h ih =
        let p : Stands ss t = ih h in record { place = suc p.place; inside = omega (arith, p.inside); stands = p.stands }

pub place-has : (S : List Tree) (i : ℕ) (d : Tree) → i < length S → has S (get_or S i d) ≡ true
place-has [] i d h = let z : ⊥ = omega arith in absurd z
place-has (s ∷ ss) zero d h = has_first (s ∷ []) ss s (has_itself s)
place-has (s ∷ ss) (suc i) d h = has-second (s ∷ []) ss (get_or ss i d) (place-has ss i d (omega arith))

-- Where nothing repeats, a function has one place.
pub one_place :
    (S : List Tree) (i j : ℕ) (d : Tree) → no_repeats S ≡ true → i < length S → j < length S → get_or S i d ≡ get_or S j d → i ≡ j
one_place [] i j d n p q e = let z : ⊥ = omega arith in absurd z
one_place (s ∷ ss) zero zero d n p q e = refl
one_place (s ∷ ss) zero (suc j) d n p q e =
    clash (place-has ss j d (omega arith)) (ap (has ss) (sym e) ∙ no_repeats_head s ss n)
one_place (s ∷ ss) (suc i) zero d n p q e =
    clash (place-has ss i d (omega arith)) (ap (has ss) e ∙ no_repeats_head s ss n)
one_place (s ∷ ss) (suc i) (suc j) d n p q e =
    ap suc (one_place ss i j d (no_repeats_tail s ss n) (omega arith) (omega arith) e)

-- Additions keep what stands.
pub add_all_keeps_place : (S ts : List Tree) (i : ℕ) (d : Tree) → i < length S → get_or (add_all S ts) i d ≡ get_or S i d
add_all_keeps_place S ts i d h = ap (λ l. get_or l i d) (add_all_fresh S ts) ∙ get_or-append S (fresh S ts) d i h

pub add_all_begins : (S ts : List Tree) → take (length S) (add_all S ts) ≡ S
add_all_begins S ts = ap (take (length S)) (add_all_fresh S ts) ∙ take-append_seam S (fresh S ts)
