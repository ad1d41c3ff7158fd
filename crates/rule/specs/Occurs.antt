-- Which values meet in a rule when the list rule runs: found by taking step 3 of every function with don't cares of two
-- columns.
use Rattle.std.specs.Prelude.{Bool, true, false, ◌&&◌, ◌||◌, ℕ, zero, suc, eqb}
use mathlib.Core.List.{List, [], ◌∷◌, map, flat_map}
use Rattle.rule.specs.Func.{Fn, always}
use Rattle.rule.specs.Point.{Pt}
use Rattle.rule.specs.Rule.{steps, g0_of, g1_of, r0_of, r1_of, list_of}
use Rattle.rule.specs.Three.{place_of, value_at}
use Rattle.rule.specs.declared.three.Value.{Value}
use Rattle.rule.specs.declared.three.Rule.{Rule}
use Rattle.rule.specs.declared.three.Rule.TheVariants.{Keep, Remove, Join}

-- All functions with don't cares of m columns, as lower and upper root: at each point off, on or don't care.
unfoldable pub roots : (m : ℕ) → List (Fn m × Fn m)
roots zero = (false, false) ∷ (true, true) ∷ (false, true) ∷ []
roots (suc m) = flat_map (λ f. map (λ g. ((f.0, g.0), (f.1, g.1))) (roots m)) (roots m)

-- All points of m columns.
unfoldable pub points : ℕ → List Pt
points zero = [] ∷ []
points (suc m) = flat_map (λ p. (false ∷ p) ∷ (true ∷ p) ∷ []) (points m)

-- The values that meet in a rule at a point of step 3, once for each time that the step takes the rule.
unfoldable pub meetings : (m : ℕ) → Fn (suc m) → Fn (suc m) → Pt → Rule → List (Value × Value)
meetings m L U q Keep =
    (value_at m L.0 U.0 q, value_at m L.1 U.1 q) ∷ (value_at m L.1 U.1 q, value_at m L.0 U.0 q) ∷ []
meetings m L U q Remove =
    (value_at m L.0 U.0 q, value_at m (g0_of m (list_of m) L U) (g0_of m (list_of m) L U) q) ∷
    (value_at m L.1 U.1 q, value_at m (g1_of m (list_of m) L U) (g1_of m (list_of m) L U) q) ∷ []
meetings m L U q Join = (value_at m (r0_of m (list_of m) L U) U.0 q, value_at m (r1_of m (list_of m) L U) U.1 q) ∷ []

-- All that meet in a rule where a function of m + 1 columns reaches step 3.
unfoldable pub in_step3 : ℕ → Rule → List (Value × Value)
in_step3 m r =
    flat_map
    (λ f.
    steps (always false (suc m) f.0) (always true (suc m) f.1) []
    (λ u. flat_map (λ q. meetings m f.0 f.1 q r) (points m)))
    (roots (suc m))

-- Whether two values are among some pairs.
unfoldable pub among : List (Value × Value) → Value → Value → Bool
among [] a b = false
among (p ∷ ps) a b = (eqb (place_of p.0) (place_of a) && eqb (place_of p.1) (place_of b)) || among ps a b

-- Whether two values meet in a rule for some function of two columns.
unfoldable pub occurs : Rule → Value → Value → Bool
occurs r = among (in_step3 1 r)
