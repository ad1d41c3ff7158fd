-- `checker::fill::fill_from` meets its contract: a constant's table is known, up to six columns it is one word, and else the halves' tables
-- are filled in the halves of the slice. The measure is the columns left.
use Prim.Native.Nat.{◌-◌}
use Rattle.checker.proofs.fill.+fill_from.Given as goal

abbrev pub decreases-fill_from : goal.decreases-fill_from
decreases-fill_from l = l.table.now.columns - l.k
