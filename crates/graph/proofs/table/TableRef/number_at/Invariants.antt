-- `graph::table::TableRef::number_at` meets its contract. The loop's invariant: the records from i on are not the one, so that
-- the look-up among the first i decides.
use mathlib.Core.Path.{◌≡◌}
use Rattle.graph.specs.Table.{number_at}
use Rattle.graph.specs.Lent.{read}
use Rattle.graph.proofs.table.TableRef.number_at.Given as goal

abbrev pub invariant-loop-i : goal.invariant-loop-i
invariant-loop-i l = number_at (read l.fn.self) l.fn.self.count l.v l.l l.h ≡ number_at (read l.fn.self) l.i l.v l.l l.h
