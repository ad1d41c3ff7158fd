-- `graph::entry::variable` meets its contract: the tests stand in the order of the conditions, the node of the column has
-- its function over all columns, and settling answers it.
use native.Mathlib.Omega.{arith}
use borrow.Author.Tests.{lt-ltb, le-ltb}
use Rattle.rule.specs.Refusal.{refusal_of}
use Rattle.graph.proofs.Tests.{constant-refers}
use Rattle.graph.proofs.Lending.{read_tested}
use Rattle.graph.proofs.Refusals.{passed_on, passed_sound}
use Rattle.graph.proofs.Operating.{operated_bad_table, operated-out_of_range, operated_settled, made_fits, variable_made}
use Rattle.graph.proofs.entry.variable.Goals as goal

pub returns-in_err-table_refusal-clause-operated : goal.returns-in_err-table_refusal-clause-operated
returns-in_err-table_refusal-clause-operated c =
    rw (passed_on c.from_residual.result c.in_err-table_refusal.field-0.0 c.from_residual.ensures.1)
    (operated_bad_table _ _ _ _ _ _ _ _ (read_tested _ _ c.reading.ensures c.in_err-table_refusal.ensures))

pub returns-then-table-column-clause-operated : goal.returns-then-table-column-clause-operated
unfolding refusal_of
returns-then-table-column-clause-operated c =
    operated-out_of_range _ _ _ _ _ _ _ _ (read_tested _ _ c.reading.ensures c.in_ok-table_refusal.ensures)
    (le-ltb _ _ c.if-table-column.true)

pub make-made-requires : goal.make-made-requires
make-made-requires c =
    record {
      sound = passed_sound _ _ _ _ _ _ (read_tested _ _ c.reading.ensures c.in_ok-table_refusal.ensures);
      column = c.if-table-column.false;
      first = constant-refers _ _ _ _ (omega arith);
      second = constant-refers _ _ _ _ (omega arith);
    }

pub settle-requires : goal.settle-requires
settle-requires c =
    made_fits c.args.table.now c.make-made.new.self _ _ _ _
    (variable_made c.args.table.now c.make-made.new.self _ _ c.make-made.ensures.made c.if-table-column.false)

pub returns-clause-operated : goal.returns-clause-operated
returns-clause-operated c =
    operated_settled _ _ _ _ _ _ _ _ (read_tested _ _ c.reading.ensures c.in_ok-table_refusal.ensures) _ _ _ _ _ _ _ _ _
    (lt-ltb _ _ c.if-table-column.false)
    _ (variable_made c.args.table.now c.make-made.new.self _ _ c.make-made.ensures.made c.if-table-column.false) c.settle.ensures.settled
