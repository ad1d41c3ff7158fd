-- `graph::table::TableRef::refers_to` meets its contract: a constant refers, and of a record in use the level decides.
use mathlib.Core.Path.{sym, ◌∙◌}
use borrow.Author.Tests.{le-ltb}
use Rattle.graph.specs.Table.{table_of}
use Rattle.graph.proofs.Tests.{constant-refers}
use Rattle.graph.proofs.Reading.{past_the_records, level_decides}
use Rattle.graph.proofs.table.TableRef.refers_to.Goals as goal

pub returns-then-x-lt2 : goal.returns-then-x-lt2
returns-then-x-lt2 c = sym (constant-refers _ _ _ _ c.if-x-lt2.true)

pub returns-then-i-count : goal.returns-then-i-count
unfolding table_of
returns-then-i-count c = sym (level_decides _ _ _ _ c.if-x-lt2.false c.if-i-count.true)

pub returns-else-i-count : goal.returns-else-i-count
returns-else-i-count c = le-ltb _ _ c.if-i-count.false ∙ sym (past_the_records _ _ _ _ c.if-x-lt2.false c.if-i-count.false)
