-- `graph::table::TableRef::good_table` meets its contract. The loop's invariant: the first i records keep their rule and are on
-- their chains.
use mathlib.Core.Path.{sym, ◌∙◌}
use Rattle.graph.proofs.Reading.{no_records, one_more-good, one_bad}
use Rattle.graph.proofs.Chains.{no_chains}
use Rattle.graph.proofs.table.TableRef.good_table.Goals as goal

pub loop-i-init : goal.loop-i-init
loop-i-init c = record { good = no_records _ _; chained = no_chains _ _ _ _ c.requires }

pub returns-then-not-good_record : goal.returns-then-not-good_record
returns-then-not-good_record c =
    sym (one_bad _ _ _ _ c.loop-i-test.true (sym c.good_record.ensures ∙ c.if-not-good_record.true))

pub loop-i-preserved : goal.loop-i-preserved
loop-i-preserved c =
    record {
      good = one_more-good _ _ _ c.loop-i.invariant.good (sym c.good_record.ensures ∙ c.if-not-good_record.false);
      chained = c.link.ensures;
    }
