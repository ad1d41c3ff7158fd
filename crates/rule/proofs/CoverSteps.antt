-- What a list covers, by the steps that gave it: after steps 1 and 2 a constant; after step 3 each half's own cover or what
-- list C covers.
use mathlib.Core.Path.{◌≡◌, refl, sym, ap, ◌∙◌}
use mathlib.Core.Bool.{Bool, true, false, ◌||◌}
use mathlib.Core.List.{List, [], ◌∷◌}
use Prim.Native.Nat.{ℕ, suc}
use Rattle.rule.specs.Func.{Fn, half, constant, either, always}
use Rattle.rule.specs.Point.{Pt, lead, rest, at}
use Rattle.rule.specs.Cube.{dash, Cube, permits, covers, covers_any, covered, dashes}
use Rattle.rule.specs.Rule.{put, list_a, list_b, list_c, g0_of, g1_of, g_star, result, list_of}
use Rattle.rule.proofs.Bools.{or_left}
use Rattle.rule.proofs.Func.{at_constant, at-either, ext}
use Rattle.rule.proofs.Cubes.{at-covered, any_put, dashes-cover}
use Rattle.rule.proofs.Steps.{any_result, list_step1, list_step2, list_step3}

-- The empty list covers 0, and the cube without literals 1.
pub cover-none : (m : ℕ) → covered m [] ≡ constant m false
unfolding covered
cover-none m = refl

pub cover_all : (m : ℕ) → covered m (dashes m ∷ []) ≡ constant m true
unfolding covers_any
cover_all m =
    ext m (covered m (dashes m ∷ [])) (constant m true)
    (λ p w.
    at-covered m (dashes m ∷ []) p ∙ or_left (covers m (dashes m) p) false (dashes-cover m p) ∙
    sym (at_constant m true p))

-- A list under a dash covers in each half what it covered.
pub cover-dash : (m : ℕ) (cs : List Cube) → covered (suc m) (put dash cs) ≡ (covered m cs, covered m cs)
unfolding at permits half
cover-dash m cs =
    ext (suc m) (covered (suc m) (put dash cs)) (covered m cs, covered m cs)
    (λ p w. at-covered (suc m) (put dash cs) p ∙ any_put m dash cs p ∙ side (lead p) (rest p))
  where
    side : (d : Bool) (q : Pt) → covers_any m cs q ≡ at m (half d (covered m cs, covered m cs)) q
    side false q = sym (at-covered m cs q)
    side true q = sym (at-covered m cs q)

-- The result of step 3 covers G0 or G* in the half for 0, and G1 or G* in the half for 1.
pub cover-step : (m : ℕ) (list : Fn m → Fn m → List Cube) (L U : Fn (suc m)) →
    covered (suc m) (result m list L U) ≡
    (either m (g0_of m list L U) (g_star m list L U), either m (g1_of m list L U) (g_star m list L U))
unfolding at half g0_of g1_of g_star
cover-step m list L U =
    ext (suc m) (covered (suc m) (result m list L U)) halves
    (λ p w. at-covered (suc m) (result m list L U) p ∙ any_result m list L U p ∙ side (lead p) (rest p))
  where
    halves : Fn (suc m)
    halves = (either m (g0_of m list L U) (g_star m list L U), either m (g1_of m list L U) (g_star m list L U))

    joined_at : (A C : List Cube) (q : Pt) → (covers_any m A q || covers_any m C q) ≡ at m (either m (covered m A) (covered m C)) q
    joined_at A C q = cc (at-covered m A q, at-covered m C q, at-either m (covered m A) (covered m C) q)

    side : (d : Bool) (q : Pt) →
        (covers_any m (half d (list_a m list L U, list_b m list L U)) q || covers_any m (list_c m list L U) q) ≡ at m (half d halves) q
    side false q = joined_at (list_a m list L U) (list_c m list L U) q
    side true q = joined_at (list_b m list L U) (list_c m list L U) q

-- So the cover of the rule's list is, by its steps:
pub cover_step1 : (m : ℕ) (L U : Fn m) → always false m L ≡ true → covered m (list_of m L U) ≡ constant m false
cover_step1 m L U e = ap (covered m) (list_step1 m L U e) ∙ cover-none m

pub cover_step2 : (m : ℕ) (L U : Fn m) → always false m L ≡ false → always true m U ≡ true → covered m (list_of m L U) ≡ constant m true
cover_step2 m L U e e' = ap (covered m) (list_step2 m L U e e') ∙ cover_all m

pub cover_step3 : (m : ℕ) (L U : Fn (suc m)) → always false (suc m) L ≡ false → always true (suc m) U ≡ false →
    covered (suc m) (list_of (suc m) L U) ≡
    (either m (g0_of m (list_of m) L U) (g_star m (list_of m) L U), either m (g1_of m (list_of m) L U) (g_star m (list_of m) L U))
cover_step3 m L U e e' = ap (covered (suc m)) (list_step3 m L U e e') ∙ cover-step m (list_of m) L U
