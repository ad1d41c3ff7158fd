-- `graph::table::TableRef::good_table` meets its contract. The loop's invariant: the first i records keep their rule and are on
-- their chains.
use mathlib.Core.Path.{◌≡◌}
use mathlib.Core.Bool.{true}
use Rattle.graph.specs.Table.{good_table}
use Rattle.graph.specs.Lent.{read, ChainedIn}
use Rattle.graph.proofs.table.TableRef.good_table.Given as goal

abbrev pub invariant-loop-i : goal.invariant-loop-i
invariant-loop-i l = record {
  good : good_table l.fn.self.columns (read l.fn.self) l.i ≡ true;
  chained : ChainedIn l.fn.self l.chains l.i;
}
