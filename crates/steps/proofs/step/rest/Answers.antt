-- `steps::step::rest` meets its contract: what the halves leave, then both joined.
use Rattle.memo.specs.Memo.{HoldsAfter}
use Rattle.steps.proofs.Runs.{TwoPromise}
use Rattle.steps.proofs.Stepping.{rest_full, top-roots, rest-done}
use Rattle.steps.proofs.step.rest.Goals as goal

pub returns-in_err-r0-clause-left : goal.returns-in_err-r0-clause-left
unfolding TwoPromise
returns-in_err-r0-clause-left c =
    rw c.from_residual.ensures
    (rest_full c.args.operations.now.table.now _ c.args.kept _ _ c.requires.roots c.two.new.operations.table.now c.in_err-r0.ensures.made)

pub two-requires-2-clause-roots : goal.two-requires-2-clause-roots
unfolding TwoPromise
two-requires-2-clause-roots c =
    top-roots c.args.operations.now.table.now _ c.args.kept _ _ c.requires.roots c.two.new.operations.table.now c.two.ensures.same.slices.columns _ c.in_ok-r0.ensures.made

pub two-requires-2-clause-memo : goal.two-requires-2-clause-memo
unfolding HoldsAfter
two-requires-2-clause-memo c = c.in_ok-r0.ensures.memo

pub returns-clause-left : goal.returns-clause-left
unfolding TwoPromise
returns-clause-left c =
    rest-done c.args.operations.now.table.now _ c.args.kept _ _ c.requires.roots c.two.new.operations.table.now c.two.ensures.same.slices.columns _ c.in_ok-r0.ensures.made
    c.two-2.new.operations.table.now _ c.two-2.ensures.made
