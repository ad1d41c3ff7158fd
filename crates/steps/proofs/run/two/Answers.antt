-- `steps::run::two` meets its contract: each way out is a law of `Runs`, and the memo goes from call to call.
use Rattle.graph.proofs.Applying.{Promise}
use Rattle.memo.specs.Memo.{HoldsAfter}
use Rattle.steps.proofs.Runs.{TwoPromise, first_full, second-roots, second_full, both-done}
use Rattle.steps.proofs.run.two.Goals as goal

pub returns-in_err-x-clause-made : goal.returns-in_err-x-clause-made
unfolding Promise TwoPromise
returns-in_err-x-clause-made c =
    rw c.from_residual.ensures (first_full c.args.operations.now.table.now _ c.args.first c.args.then c.requires.roots c.apply.new.self.table.now c.in_err-x.ensures.made)

pub returns-in_err-x-clause-memo : goal.returns-in_err-x-clause-memo
unfolding HoldsAfter
returns-in_err-x-clause-memo c = rw c.from_residual.ensures tt

pub apply-requires-2-clause-roots : goal.apply-requires-2-clause-roots
unfolding Promise
apply-requires-2-clause-roots c =
    second-roots c.args.operations.now.table.now _ c.args.first c.args.then c.requires.roots c.apply.new.self.table.now c.apply.ensures.same.slices.columns _ c.in_ok-x.ensures.made

pub apply-requires-2-clause-memo : goal.apply-requires-2-clause-memo
unfolding HoldsAfter
apply-requires-2-clause-memo c = c.in_ok-x.ensures.memo

pub returns-in_err-y-clause-made : goal.returns-in_err-y-clause-made
unfolding Promise TwoPromise
returns-in_err-y-clause-made c =
    rw c.from_residual-in_err-y.ensures
    (second_full c.args.operations.now.table.now _ c.args.first c.args.then c.requires.roots c.apply.new.self.table.now c.apply.ensures.same.slices.columns _ c.in_ok-x.ensures.made
    c.apply-2.new.self.table.now c.in_err-y.ensures.made)

pub returns-in_err-y-clause-memo : goal.returns-in_err-y-clause-memo
unfolding HoldsAfter
returns-in_err-y-clause-memo c = rw c.from_residual-in_err-y.ensures tt

pub returns-clause-made : goal.returns-clause-made
unfolding Promise TwoPromise
returns-clause-made c =
    both-done c.args.operations.now.table.now _ c.args.first c.args.then c.requires.roots c.apply.new.self.table.now c.apply.ensures.same.slices.columns _ c.in_ok-x.ensures.made
    c.apply-2.new.self.table.now _ c.in_ok-y.ensures.made

pub returns-clause-memo : goal.returns-clause-memo
unfolding HoldsAfter
returns-clause-memo c = c.in_ok-y.ensures.memo
