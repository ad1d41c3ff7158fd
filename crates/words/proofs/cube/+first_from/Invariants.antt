-- `words::cube::first_from` and `first_by_halves` meet their contracts: one word, one word against each word, or the halves of the
-- slice by the sign of the first column, the half for 0 first. The measure is the columns left, and which of the two it is.
use Prim.Native.Nat.{◌+◌, ◌*◌}
use Rattle.words.proofs.cube.+first_from.Given as goal

abbrev pub decreases-first_from : goal.decreases-first_from
decreases-first_from l = 2 * l.columns + 1

abbrev pub decreases-first_by_halves : goal.decreases-first_by_halves
decreases-first_by_halves l = 2 * l.columns
