-- `words::cube::Halves::first_is_one` meets its contract: the first column is the lowest bit.
use mathlib.Core.Path.{refl}
use Rattle.rule.specs.Point.{odd}
use Rattle.words.proofs.cube.Halves.first_is_one.Goals as goal

pub returns : goal.returns
unfolding odd
returns c = refl
