-- `memo::build::Operations::apply` and `by_halves` end: the measure is twice the columns left, and one more before the numbers
-- are taken apart.
use Prim.Native.Nat.{◌+◌, ◌-◌, ◌*◌}
use Rattle.memo.proofs.build.Operations.+apply_by_halves.Given as goal

abbrev pub decreases-apply : goal.decreases-apply
decreases-apply l = 2 * (l.self.now.table.now.columns - l.k) + 1

abbrev pub decreases-by_halves : goal.decreases-by_halves
decreases-by_halves l = 2 * (l.self.now.table.now.columns - l.k)
