-- `graph::entry::operate` meets its contract: the tests stand in the order of the conditions, and settling answers what
-- was made of the operation at the first column.
use mathlib.Core.Path.{sym, ◌∙◌}
use Rattle.rule.specs.Refusal.{refusal_of}
use Rattle.graph.proofs.Columns.{both-roots}
use Rattle.graph.proofs.Lending.{read_tested}
use Rattle.graph.proofs.Refusals.{passed_on, passed_sound, passed_count}
use Rattle.graph.proofs.Entries.{root_in_range, both_in, first_out, second-out}
use Rattle.graph.proofs.Applying.{Promise}
use Rattle.graph.proofs.Operating.{operated_bad_table, operated-out_of_range, operated_settled, made_fits, result_made}
use Rattle.graph.proofs.entry.operate.Goals as goal
use Rattle.graph.proofs.entry.operate.Goals.{then-not-in_range-via-then-not-in_range, then-not-in_range-via-else-not-in_range+then-not-in_range-2}

pub returns-in_err-table_refusal-clause-operated : goal.returns-in_err-table_refusal-clause-operated
returns-in_err-table_refusal-clause-operated c =
    rw (passed_on c.from_residual.result c.in_err-table_refusal.field-0.0 c.from_residual.ensures.1)
    (operated_bad_table _ _ _ _ _ _ _ _ (read_tested _ _ c.reading.ensures c.in_err-table_refusal.ensures))

pub in_range-requires : goal.in_range-requires
in_range-requires c = passed_count _ _ _ _ _ _ (read_tested _ _ c.reading.ensures c.in_ok-table_refusal.ensures)

pub in_range-requires-else-not-in_range : goal.in_range-requires-else-not-in_range
in_range-requires-else-not-in_range c = passed_count _ _ _ _ _ _ (read_tested _ _ c.reading.ensures c.in_ok-table_refusal.ensures)

pub returns-then-not-in_range-clause-operated : goal.returns-then-not-in_range-clause-operated
unfolding refusal_of
returns-then-not-in_range-clause-operated c =
    operated-out_of_range _ _ _ _ _ _ _ _ (read_tested _ _ c.reading.ensures c.in_ok-table_refusal.ensures)
    (elim c.then-not-in_range.branch [
      | then-not-in_range-via-then-not-in_range w ↦ first_out _ _ _ (sym c.in_range.ensures ∙ w.if-not-in_range.true)
      | then-not-in_range-via-else-not-in_range+then-not-in_range-2 w ↦
          second-out _ _ _ (sym w.in_range-else-not-in_range.ensures ∙ w.if-not-in_range-2.true)
    ])

pub apply-made-requires : goal.apply-made-requires
apply-made-requires c =
    let sound = passed_sound _ _ _ _ _ _ (read_tested _ _ c.reading.ensures c.in_ok-table_refusal.ensures) in
    let a = root_in_range _ _ _ _ _ c.args.a sound (sym c.in_range.ensures ∙ c.if-not-in_range.false) in
    let b = root_in_range _ _ _ _ _ c.args.b sound (sym c.in_range-else-not-in_range.ensures ∙ c.if-not-in_range-2.false) in
    search (a, b, both-roots)

pub settle-requires : goal.settle-requires
unfolding Promise
settle-requires c = made_fits c.args.table.now c.apply-made.new.self _ _ _ _ (result_made _ c.args.table.now _ _ c.apply-made.new.self _ c.apply-made.ensures.made)

pub returns-clause-operated : goal.returns-clause-operated
unfolding Promise
returns-clause-operated c =
    operated_settled _ _ _ _ _ _ _ _ (read_tested _ _ c.reading.ensures c.in_ok-table_refusal.ensures) _ _ _ _ _ _ _ _ _
    (both_in _ _ _ (sym c.in_range.ensures ∙ c.if-not-in_range.false)
    (sym c.in_range-else-not-in_range.ensures ∙ c.if-not-in_range-2.false))
    _ (result_made _ c.args.table.now _ _ c.apply-made.new.self _ c.apply-made.ensures.made) c.settle.ensures.settled
