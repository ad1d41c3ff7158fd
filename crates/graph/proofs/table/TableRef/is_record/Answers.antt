-- `graph::table::TableRef::is_record` meets its contract.
use native.Mathlib.Omega.{arith}
use Rattle.graph.specs.Table.{table_of, is_record}
use Rattle.graph.proofs.table.TableRef.is_record.Goals as goal

pub returns-then-self-j-2 : goal.returns-then-self-j-2
unfolding table_of is_record
returns-then-self-j-2 c = grind arith

pub returns-else-self-j-2 : goal.returns-else-self-j-2
unfolding table_of is_record
returns-else-self-j-2 c = grind arith
