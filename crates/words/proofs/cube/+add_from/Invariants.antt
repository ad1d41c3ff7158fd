-- `words::cube::add_from` meets its contract: one word for every word, or the halves of both slices by the sign of the first
-- column. The measure is the columns left.
use Rattle.words.proofs.cube.+add_from.Given as goal

abbrev pub decreases-add_from : goal.decreases-add_from
decreases-add_from l = l.columns
