-- `checker::faults::literal_fault` meets its contract. The loop's invariant: no cube before `i` has a literal that can go.
use mathlib.Core.Path.{refl}
use Prim.Native.Nat.{◌+◌}
use native.Mathlib.Omega.{arith}
use Rattle.checker.proofs.Finding.{literal-start, literal-next, literal-here, literal_end}
use Rattle.checker.proofs.faults.literal_fault.Goals as goal

pub loop-i-init : goal.loop-i-init
loop-i-init c = literal-start _ _ _

pub returns-in-Some : goal.returns-in-Some
returns-in-Some c = record { fault = literal-here c.args.columns c.args.off.now c.args.list.now c.loop-i.i (c.in-Some.k + 1) c.loop-i.invariant (omega arith) c.in-Some.ensures c.in-Some.k refl }

pub loop-i-preserved : goal.loop-i-preserved
loop-i-preserved c = literal-next c.args.columns c.args.off.now c.args.list.now c.loop-i.i 0 c.loop-i.invariant (omega arith) c.in_default.ensures refl

pub returns : goal.returns
returns c = record { fault = literal_end c.args.columns c.args.off.now c.args.list.now c.loop-i.i c.loop-i.invariant (omega arith) }
