-- `checker::faults::cover` meets its contract. The loop's invariant: the tables are those of the cubes that were taken from the end.
use mathlib.Core.Path.{ap, ◌∙◌}
use Rattle.checker.proofs.Finding.{covering_start, covering_next, covering_end}
use Rattle.checker.proofs.faults.cover.Goals as goal

pub loop-cube-init : goal.loop-cube-init
loop-cube-init c =
    let whole = ap (λ x. x.iter.rest.now) c.into_iter-cube-iterator.ensures.into_iter_gives ∙ ap (λ x. x.rest.now) c.rev-cube-items.ensures.source ∙ c.iter.ensures.rest in
    covering_start c.args.columns c.args.list.now whole (c.fill.auto.s ∙ c.requires.first) (c.fill-2.auto.s ∙ c.requires.second) c.fill.ensures c.fill-2.ensures

pub loop-cube-preserved : goal.loop-cube-preserved
loop-cube-preserved c = covering_next c.args.columns c.args.list.now c.in-Some.cube.now c.loop-cube.invariant c.in-Some.ensures.steps c.add_number.ensures c.add_number.auto.covered c.add_number.auto.twice

pub returns : goal.returns
returns c = covering_end c.args.columns c.args.list.now c.in-None.ensures.steps.0 c.loop-cube.invariant
