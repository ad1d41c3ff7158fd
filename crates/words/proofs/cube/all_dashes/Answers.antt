-- `words::cube::all_dashes` meets its contract: neither half of the cube has a bit below the last six columns.
use mathlib.Core.Path.{sym}
use Rattle.words.proofs.Cubes.{plain-few, before-some, zeros_decide, ones_decide}
use Rattle.words.proofs.cube.all_dashes.Goals as goal

pub returns-then-columns-le6 : goal.returns-then-columns-le6
returns-then-columns-le6 c = sym (plain-few c.args.columns c.args.cube.ones c.args.cube.zeros c.if-columns-le6.true)

pub overflow_sub-before-2 : goal.overflow_sub-before-2
overflow_sub-before-2 c =
    before-some c.args.columns c.args.cube.ones c.args.cube.zeros c.if-columns-le6.false c.requires

pub returns-then-cube-before-eq0 : goal.returns-then-cube-before-eq0
returns-then-cube-before-eq0 c =
    zeros_decide c.args.columns c.args.cube.ones c.args.cube.zeros c.if-columns-le6.false c.requires c.if-cube-before-eq0.true

pub returns-else-cube-before-eq0 : goal.returns-else-cube-before-eq0
returns-else-cube-before-eq0 c =
    ones_decide c.args.columns c.args.cube.ones c.args.cube.zeros c.if-columns-le6.false c.requires c.if-cube-before-eq0.false
