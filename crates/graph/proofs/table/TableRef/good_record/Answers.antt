-- `graph::table::TableRef::good_record` meets its contract: it is the tests of the definition, in order.
use native.Mathlib.Omega.{arith}
use Rattle.graph.specs.Table.{table_of, good_record}
use Rattle.graph.proofs.Reading.{none_is_zero}
use Rattle.graph.proofs.table.TableRef.good_record.Goals as goal

pub returns-then-refers_to-2 : goal.returns-then-refers_to-2
unfolding table_of good_record
returns-then-refers_to-2 c =
    let last = none_is_zero _ _ _ c.number_at.ensures c.is_none.ensures in
    grind arith

pub returns-else-refers_to-2 : goal.returns-else-refers_to-2
unfolding table_of good_record
returns-else-refers_to-2 c = grind arith
