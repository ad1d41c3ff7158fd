-- `words::word::points` meets its contract: nothing is shifted out.
use Rattle.words.proofs.Halving.{points_shifted}
use Rattle.words.proofs.word.points.Goals as goal

pub returns : goal.returns
returns c = points_shifted c.args.columns c.requires
