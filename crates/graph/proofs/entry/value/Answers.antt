-- `graph::entry::value` meets its contract: the tests stand in the order of the conditions, and the walk from the root
-- has the value.
use mathlib.Core.Path.{sym, ◌∙◌}
use native.Mathlib.Omega.{arith}
use Rattle.rule.specs.Refusal.{refusal_of}
use Rattle.graph.proofs.Refusals.{passed_on, passed_sound, passed_count}
use Rattle.graph.proofs.Entries.{root_in_range}
use Rattle.graph.proofs.Values.{value_bad_table, value_root-out, value_point_out, value_found}
use Rattle.graph.proofs.entry.value.Goals as goal
use Rattle.graph.proofs.entry.value.Goals.{then-not-in_range-via-then-not-in_range, then-not-in_range-via-else-not-in_range+then-table-point}

pub returns-in_err-table_refusal : goal.returns-in_err-table_refusal
returns-in_err-table_refusal c =
    passed_on c.from_residual.result c.in_err-table_refusal.field-0.0 c.from_residual.ensures.1 ∙
    value_bad_table _ _ _ _ _ _ _ _ c.in_err-table_refusal.ensures

pub in_range-requires : goal.in_range-requires
in_range-requires c = passed_count _ _ _ _ _ _ c.in_ok-table_refusal.ensures

pub overflow_shl-table : goal.overflow_shl-table
overflow_shl-table c = omega (arith, (passed_sound _ _ _ _ _ _ c.in_ok-table_refusal.ensures).columns)

pub returns-then-not-in_range : goal.returns-then-not-in_range
unfolding refusal_of
returns-then-not-in_range c =
    elim c.then-not-in_range.branch [
      | then-not-in_range-via-then-not-in_range w ↦
          value_root-out _ _ _ _ _ _ _ _ c.in_ok-table_refusal.ensures (sym c.in_range.ensures ∙ w.if-not-in_range.true)
      | then-not-in_range-via-else-not-in_range+then-table-point w ↦
          value_point_out _ _ _ _ _ _ _ _ c.in_ok-table_refusal.ensures (omega (arith, w.if-table-point.true))
    ]

pub value_from-requires : goal.value_from-requires
value_from-requires c =
    root_in_range _ _ _ _ _ _ (passed_sound _ _ _ _ _ _ c.in_ok-table_refusal.ensures) (sym c.in_range.ensures ∙ c.if-not-in_range.false)

pub returns : goal.returns
returns c =
    value_found _ _ _ _ _ _ _ _ c.in_ok-table_refusal.ensures (sym c.in_range.ensures ∙ c.if-not-in_range.false)
    c.if-table-point.false _ c.value_from.ensures
