-- `graph::table::TableRef::input_refusal` meets its contract: the tests stand in the order of the conditions.
use mathlib.Core.Path.{sym, ◌∙◌}
use Rattle.rule.specs.Refusal.{refusal_of}
use Rattle.graph.proofs.Refusals.{passed_on, passed_count}
use Rattle.graph.proofs.Roots.{bad_table, lower-out, upper-out, within-roots, not_inside, size-over, none_over}
use Rattle.graph.proofs.table.TableRef.input_refusal.Goals as goal
use Rattle.graph.proofs.table.TableRef.input_refusal.Goals.{then-not-in_range-via-then-not-in_range, then-not-in_range-via-else-not-in_range+then-not-in_range-2}

pub returns-in_err-table_refusal : goal.returns-in_err-table_refusal
returns-in_err-table_refusal c =
    passed_on c.from_residual.result c.in_err-table_refusal.field-0.0 c.from_residual.ensures.1 ∙
    bad_table _ _ _ _ _ _ _ _ _ c.in_err-table_refusal.ensures

pub in_range-requires : goal.in_range-requires
in_range-requires c = passed_count _ _ _ _ _ _ c.in_ok-table_refusal.ensures

pub in_range-requires-else-not-in_range : goal.in_range-requires-else-not-in_range
in_range-requires-else-not-in_range c = passed_count _ _ _ _ _ _ c.in_ok-table_refusal.ensures

pub returns-then-not-in_range : goal.returns-then-not-in_range
unfolding refusal_of
returns-then-not-in_range c =
    elim c.then-not-in_range.branch [
      | then-not-in_range-via-then-not-in_range w ↦
          lower-out _ _ _ _ _ _ _ _ _ c.in_ok-table_refusal.ensures (sym c.in_range.ensures ∙ w.if-not-in_range.true)
      | then-not-in_range-via-else-not-in_range+then-not-in_range-2 w ↦
          upper-out _ _ _ _ _ _ _ _ _ c.in_ok-table_refusal.ensures
          (sym w.in_range-else-not-in_range.ensures ∙ w.if-not-in_range-2.true)
    ]

pub within_from-requires : goal.within_from-requires
within_from-requires c =
    within-roots _ _ _ _ _ _ _ c.args.size _ c.in_ok-table_refusal.ensures
    (sym c.in_range.ensures ∙ c.if-not-in_range.false)
    (sym c.in_range-else-not-in_range.ensures ∙ c.if-not-in_range-2.false)

pub returns-then-not-within_from : goal.returns-then-not-within_from
unfolding refusal_of
returns-then-not-within_from c =
    not_inside _ _ _ _ _ _ _ _ _ c.in_ok-table_refusal.ensures
    (sym c.in_range.ensures ∙ c.if-not-in_range.false)
    (sym c.in_range-else-not-in_range.ensures ∙ c.if-not-in_range-2.false)
    _ c.within_from.ensures c.if-not-within_from.true

pub returns-then-size-gt16384 : goal.returns-then-size-gt16384
unfolding refusal_of
returns-then-size-gt16384 c =
    size-over _ _ _ _ _ _ _ _ _ c.in_ok-table_refusal.ensures
    (sym c.in_range.ensures ∙ c.if-not-in_range.false)
    (sym c.in_range-else-not-in_range.ensures ∙ c.if-not-in_range-2.false)
    _ c.within_from.ensures c.if-not-within_from.false c.if-size-gt16384.true

pub returns : goal.returns
returns c =
    none_over _ _ _ _ _ _ _ _ _ c.in_ok-table_refusal.ensures
    (sym c.in_range.ensures ∙ c.if-not-in_range.false)
    (sym c.in_range-else-not-in_range.ensures ∙ c.if-not-in_range-2.false)
    _ c.within_from.ensures c.if-not-within_from.false c.if-size-gt16384.false
