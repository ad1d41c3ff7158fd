-- `words::word::side` meets its contract: nothing is shifted out.
use native.Mathlib.Omega.{arith}
use Rattle.words.proofs.Halving.{points-most, side_shifted}
use Rattle.words.proofs.word.side.Goals as goal

pub overflow_shl-result : goal.overflow_shl-result
overflow_shl-result c = omega (arith, points-most c.args.columns c.requires)

pub returns : goal.returns
returns c = side_shifted c.args.columns c.points-n.result c.requires c.points-n.ensures
