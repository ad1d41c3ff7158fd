-- `words::word::first_bit` meets its contract: the lower half of the word comes first. The measure is the columns left.
use Rattle.words.proofs.word.+first_bit.Given as goal

abbrev pub decreases-first_bit : goal.decreases-first_bit
decreases-first_bit l = l.columns
