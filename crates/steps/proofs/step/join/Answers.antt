-- `steps::step::join` meets its contract: the covers of both halves, then the node of them.
use Rattle.memo.specs.Memo.{HoldsAfter}
use Rattle.memo.proofs.Holding.{node_holds}
use Rattle.steps.proofs.Runs.{TwoPromise}
use Rattle.steps.proofs.Stepping.{join_full, join_halves, join_done}
use Rattle.steps.proofs.step.join.Goals as goal

pub returns-in_err-x-clause-made : goal.returns-in_err-x-clause-made
unfolding TwoPromise
returns-in_err-x-clause-made c =
    rw c.from_residual.ensures (join_full c.args.operations.now.table.now _ c.args.covers c.requires.roots c.two.new.operations.table.now c.in_err-x.ensures.made)

pub returns-in_err-x-clause-memo : goal.returns-in_err-x-clause-memo
unfolding HoldsAfter
returns-in_err-x-clause-memo c = rw c.from_residual.ensures tt

pub make-requires : goal.make-requires
unfolding TwoPromise
make-requires c =
    join_halves c.args.operations.now.table.now _ c.args.covers c.requires.roots c.two.new.operations.table.now c.two.ensures.same.slices.columns _ c.in_ok-x.ensures.made

pub returns-clause-made : goal.returns-clause-made
unfolding TwoPromise
returns-clause-made c =
    join_done c.args.operations.now.table.now _ c.args.covers c.requires.roots c.two.new.operations.table.now c.two.ensures.same.slices.columns _ c.in_ok-x.ensures.made
    c.make.new.self _ c.make.ensures.made

pub returns-clause-memo : goal.returns-clause-memo
unfolding TwoPromise HoldsAfter
returns-clause-memo c =
    node_holds c.two.new.operations.table.now c.make.new.self c.make.ensures.same.columns _
    (join_halves c.args.operations.now.table.now _ c.args.covers c.requires.roots c.two.new.operations.table.now c.two.ensures.same.slices.columns _ c.in_ok-x.ensures.made)
    c.make.ensures.made c.in_ok-x.ensures.memo
