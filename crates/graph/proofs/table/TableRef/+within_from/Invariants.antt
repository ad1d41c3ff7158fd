-- `graph::table::TableRef::within_from` meets its contract: a number lies within another if its halves lie within the other's,
-- column by column, and constants and equal numbers are known before that. The measure is the columns left.
use Prim.Native.Nat.{◌-◌}
use Rattle.graph.proofs.table.TableRef.+within_from.Given as goal

abbrev pub decreases-within_from : goal.decreases-within_from
decreases-within_from l = l.self.now.columns - l.k
