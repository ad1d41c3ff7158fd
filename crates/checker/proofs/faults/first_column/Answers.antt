-- `checker::faults::first_column` meets its contract. The loop's invariant: no column before `k` has a literal that can go.
use native.Mathlib.Omega.{arith}
use Rattle.checker.proofs.Finding.{column-start, column-next, column-here, column_end}
use Rattle.checker.proofs.faults.first_column.Goals as goal

pub loop-k-init : goal.loop-k-init
loop-k-init c = column-start _ _ _

pub returns-then-literal_goes : goal.returns-then-literal_goes
returns-then-literal_goes c = column-here c.args.columns c.args.off.now c.args.cube c.loop-k.k c.literal_goes.result (omega arith) c.loop-k.invariant c.literal_goes.ensures c.if-literal_goes.true

pub loop-k-preserved : goal.loop-k-preserved
loop-k-preserved c = column-next c.args.columns c.args.off.now c.args.cube c.loop-k.k c.literal_goes.result c.loop-k.invariant c.literal_goes.ensures c.if-literal_goes.false

pub returns : goal.returns
returns c = column_end c.args.columns c.args.off.now c.args.cube c.loop-k.k (omega arith) c.loop-k.invariant
