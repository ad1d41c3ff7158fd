-- `graph::table::TableRef::number_at` meets its contract. The loop's invariant: the records from i on are not the one, so that
-- the look-up among the first i decides.
use mathlib.Core.Path.{sym, ap, ◌∙◌}
use native.Mathlib.Omega.{arith}
use Rattle.rule.specs.Refusal.{some_number}
use Rattle.rule.proofs.Refusals.{some_some_number}
use Rattle.rule.proofs.Bools.{clash}
use Rattle.graph.proofs.Tests.{is-record, record_is}
use Rattle.graph.proofs.Reading.{found_here, not_found-here, none_to_find}
use Rattle.graph.proofs.table.TableRef.number_at.Goals as goal

pub returns-then-is_record : goal.returns-then-is_record
returns-then-is_record c =
    let here = is-record _ _ _ _ _ (sym c.is_record.ensures ∙ c.if-is_record.true) in
    sym (ap some_number (c.loop-i.invariant ∙ found_here _ _ _ _ _ c.loop-i-test.true here) ∙ some_some_number _ (omega arith))

pub loop-i-preserved : goal.loop-i-preserved
loop-i-preserved c =
    c.loop-i.invariant ∙
    not_found-here _ _ _ _ _ c.loop-i-test.true (λ r. clash (record_is _ _ _ _ _ r) (sym c.is_record.ensures ∙ c.if-is_record.false))

pub returns : goal.returns
returns c = sym (ap some_number (c.loop-i.invariant ∙ none_to_find _ _ _ _ _ c.loop-i-test.false))
