-- What a generation names, by its steps: nothing in steps 1 and 2, in step 3 all that the step does. So the nodes of its
-- list's cover are among the named: step 3 names its cover, and that of the other steps is constant.
use mathlib.Core.Path.{◌≡◌, refl, ap, subst⁻¹, ◌∙◌}
use mathlib.Core.Bool.{Bool, true, false}
use mathlib.Core.List.{List, []}
use mathlib.Core.Logic.{◌⊎◌, inl, inr}
use Prim.Native.Nat.{ℕ, zero, suc}
use Rattle.rule.specs.Func.{Fn, constant, always}
use Rattle.rule.specs.Cube.{Cube, covered}
use Rattle.rule.specs.Rule.{list_of, g_of, result}
use Rattle.rule.specs.Nodes.{Tree, nodes, add_all, named3, named}
use Rattle.rule.proofs.Bools.{which}
use Rattle.rule.proofs.CoverSteps.{cover_step1, cover_step2}
use Rattle.rule.proofs.Steps.{step1, step2, step3, list_step3}
use Rattle.rule.proofs.Sets.{AllIn, all_in_none, all_in_added}
use Rattle.rule.proofs.Parts.{parts}
use Rattle.rule.proofs.Nodes.{constant_no_nodes}

-- The three steps.
pub named_step1 : (m : ℕ) (L U : Fn m) → always false m L ≡ true → named m L U ≡ []
unfolding named
named_step1 zero L U e = refl
named_step1 (suc m) L U e = step1 (always false (suc m) L) (always true (suc m) U) _ _ e

pub named_step2 : (m : ℕ) (L U : Fn m) → always false m L ≡ false → always true m U ≡ true → named m L U ≡ []
unfolding named
named_step2 zero L U e e' = refl
named_step2 (suc m) L U e e' = step2 (always false (suc m) L) (always true (suc m) U) _ _ e e'

pub named_step3 : (m : ℕ) (L U : Fn (suc m)) → always false (suc m) L ≡ false → always true (suc m) U ≡ false →
    named (suc m) L U ≡ named3 m (list_of m) (named m) L U
unfolding named
named_step3 m L U e e' = step3 (always false (suc m) L) (always true (suc m) U) _ _ e e'

-- Step 3 names the nodes of its cover,
cover-named_last : (m : ℕ) (list : Fn m → Fn m → List Cube) (names : Fn m → Fn m → List Tree) (L U : Fn (suc m)) →
    AllIn (named3 m list names L U) (nodes (suc m) (covered (suc m) (result m list L U)))
unfolding named3 g_of
cover-named_last m list names L U = search parts depth 40 fits 9000

-- and the cover of the other steps has none.
constant-named : (S : List Tree) (b : Bool) (m : ℕ) (f : Fn m) → f ≡ constant m b → AllIn S (nodes m f)
constant-named S b m f e = subst⁻¹ (AllIn S) (ap (nodes m) e ∙ constant_no_nodes m b) (all_in_none S)

-- The nodes of the list's cover are named.
pub cover-named : (m : ℕ) (L U : Fn m) → AllIn (named m L U) (nodes m (covered m (list_of m L U)))
unfolding nodes
cover-named zero L U = all_in_none (named zero L U)
cover-named (suc m) L U = go (which (always false (suc m) L)) (which (always true (suc m) U))
  where
    cover : Fn (suc m)
    cover = covered (suc m) (list_of (suc m) L U)

    go :
        (always false (suc m) L ≡ true) ⊎ (always false (suc m) L ≡ false) →
        (always true (suc m) U ≡ true) ⊎ (always true (suc m) U ≡ false) → AllIn (named (suc m) L U) (nodes (suc m) cover)
    go (inl e) x = constant-named (named (suc m) L U) false (suc m) cover (cover_step1 (suc m) L U e)
    go (inr e) (inl e') = constant-named (named (suc m) L U) true (suc m) cover (cover_step2 (suc m) L U e e')
    go (inr e) (inr e') =
        rw (named_step3 m L U e e', list_step3 m L U e e') (cover-named_last m (list_of m) (named m) L U)

-- So they are in every set to which the named were added.
pub cover_added : (S : List Tree) (m : ℕ) (L U : Fn m) → AllIn (add_all S (named m L U)) (nodes m (covered m (list_of m L U)))
cover_added S m L U = all_in_added S (named m L U) (cover-named m L U)
