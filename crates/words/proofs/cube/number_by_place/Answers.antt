-- `words::cube::number_by_place` meets its contract. The loop's invariant: the digits that are left lead from `p` to the whole
-- number (`Digits`).
use mathlib.Core.Path.{subst}
use Prim.Native.Nat.{◌+◌}
use native.Mathlib.Omega.{arith}
use Rattle.words.proofs.Placing.{Digits, digits-all, digits_fit, digits-turn, digits_end}
use Rattle.words.proofs.cube.number_by_place.Goals as goal

pub loop-init : goal.loop-init
loop-init c =
    let a = c.args in
    subst (λ k. Digits a.columns a.place (a.found + 1) k a.place (a.found + 1)) (omega arith) (digits-all c.requires)

pub overflow_mul-p : goal.overflow_mul-p
overflow_mul-p c = omega (arith, digits_fit c.loop.invariant (omega arith))

pub overflow_add-p : goal.overflow_add-p
overflow_add-p c = omega (arith, digits_fit c.loop.invariant (omega arith))

pub loop-preserved : goal.loop-preserved
loop-preserved c = digits-turn c.loop.p c.loop.invariant (omega arith) (omega arith)

pub returns : goal.returns
returns c = digits_end c.loop.invariant (omega arith)
