-- `steps::step::keep` meets its contract: the halves name the halves of the roots, and the rest is `keep_full` or `keep-done`.
use Rattle.graph.specs.declared.operation.Op.TheVariants.{Difference}
use Rattle.graph.proofs.Applying.{Halved}
use Rattle.graph.proofs.Columns.{root_held, first-root, second-root}
use Rattle.graph.proofs.Lending.{read_held, read_halves}
use Rattle.memo.specs.Memo.{HoldsAfter}
use Rattle.steps.proofs.Runs.{TwoPromise}
use Rattle.steps.proofs.Stepping.{keep-roots, keep_full, keep-done}
use Rattle.steps.proofs.step.keep.Goals as goal
use Rattle.steps.proofs.step.keep.Goals.{After-split-upper}

pub split-lower-requires : goal.split-lower-requires
split-lower-requires c = read_held _ _ c.reading.ensures _ (root_held (first-root c.requires.roots.roots))

pub split-upper-requires : goal.split-upper-requires
split-upper-requires c = read_held _ _ c.reading-2.ensures _ (root_held (second-root c.requires.roots.roots))

-- Past the splits, both roots have their halves.
split-both : (c : After-split-upper) → Halved Difference c.args.operations.now.table.now c.args.k c.args.l c.args.u c.split-lower.result c.split-upper.result
split-both c =
    record {
      roots = c.requires.roots.roots;
      more = c.requires.roots.column;
      first = read_halves _ _ c.reading.ensures _ _ c.split-lower.ensures;
      second = read_halves _ _ c.reading-2.ensures _ _ c.split-upper.ensures;
    }

pub two-requires-clause-roots : goal.two-requires-clause-roots
two-requires-clause-roots c = keep-roots (split-both (goal.at.two-requires-clause-roots c).After-split-upper)

pub returns-in_err-p0-clause-kept : goal.returns-in_err-p0-clause-kept
unfolding TwoPromise
returns-in_err-p0-clause-kept c =
    rw c.from_residual.ensures
    (keep_full (split-both (goal.at.returns-in_err-p0-clause-kept c).After-split-upper) c.two.new.operations.table.now c.in_err-p0.ensures.made)

pub returns-in_err-p0-clause-memo : goal.returns-in_err-p0-clause-memo
unfolding HoldsAfter
returns-in_err-p0-clause-memo c = rw c.from_residual.ensures tt

pub returns-clause-kept : goal.returns-clause-kept
unfolding TwoPromise
returns-clause-kept c =
    keep-done (split-both (goal.at.returns-clause-kept c).After-split-upper) c.two.new.operations.table.now _ c.in_ok-p0.ensures.made

pub returns-clause-memo : goal.returns-clause-memo
unfolding HoldsAfter
returns-clause-memo c = c.in_ok-p0.ensures.memo
