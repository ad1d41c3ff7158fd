-- `graph::table::TableRef::half_of` meets its contract: a constant and a record of another level are their own halves; any
-- other has the number that its record says.
use mathlib.Core.Path.{sym}
use Rattle.graph.specs.Table.{table_of}
use Rattle.graph.proofs.Tests.{half-constant}
use Rattle.graph.proofs.Reading.{half_elsewhere, low-here, high-here}
use Rattle.graph.proofs.table.TableRef.half_of.Goals as goal

pub returns-then-x-lt2 : goal.returns-then-x-lt2
returns-then-x-lt2 c = sym (half-constant _ _ _ _ c.if-x-lt2.true)

pub returns-then-self-i : goal.returns-then-self-i
unfolding table_of
returns-then-self-i c = sym (half_elsewhere _ _ _ _ c.if-self-i.true)

pub returns-then-second : goal.returns-then-second
unfolding table_of
returns-then-second c = sym (high-here _ _ _ _ c.if-x-lt2.false c.if-self-i.false c.if-second.true)

pub returns-else-second : goal.returns-else-second
unfolding table_of
returns-else-second c = sym (low-here _ _ _ _ c.if-x-lt2.false c.if-self-i.false c.if-second.false)
