-- `checker::faults::off_fault` meets its contract. The loop's invariant: no cube before `i` covers an off point.
use mathlib.Core.Path.{refl}
use Prim.Native.Nat.{◌+◌}
use native.Mathlib.Omega.{arith}
use Rattle.checker.proofs.Finding.{off-start, off_next, off-here, off_end}
use Rattle.checker.proofs.faults.off_fault.Goals as goal

pub loop-i-init : goal.loop-i-init
loop-i-init c = off-start _ _ _

pub returns-in-Some : goal.returns-in-Some
returns-in-Some c = record { fault = off-here c.args.columns c.args.off.now c.args.list.now c.loop-i.i (c.in-Some.point + 1) c.loop-i.invariant (omega arith) c.in-Some.ensures c.in-Some.point refl }

pub loop-i-preserved : goal.loop-i-preserved
loop-i-preserved c = off_next c.args.columns c.args.off.now c.args.list.now c.loop-i.i 0 c.loop-i.invariant (omega arith) c.in_default.ensures refl

pub returns : goal.returns
returns c = record { fault = off_end c.args.columns c.args.off.now c.args.list.now c.loop-i.i c.loop-i.invariant (omega arith) }
