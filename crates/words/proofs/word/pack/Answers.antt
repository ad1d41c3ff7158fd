-- `words::word::pack` meets its contract: where the two are words of halves, nothing is shifted out and no bit is shared.
use native.Mathlib.Omega.{arith}
use Rattle.words.proofs.Halving.{points-most, packed}
use Rattle.words.proofs.word.pack.Goals as goal

pub overflow_shl-result : goal.overflow_shl-result
overflow_shl-result c = omega (arith, points-most c.args.columns c.requires)

pub returns : goal.returns
returns c =
    packed c.args.columns c.args.low c.args.high c.points-n.result c.requires c.points-n.ensures
