-- `graph::table::TableRef::value_from` meets its contract: at the last column the number is a constant, before it the half for
-- the point's next digit has the value. The measure is the columns left.
use Prim.Native.Nat.{◌-◌}
use Rattle.graph.proofs.table.TableRef.+value_from.Given as goal

abbrev pub decreases-value_from : goal.decreases-value_from
decreases-value_from l = l.self.now.columns - l.k
