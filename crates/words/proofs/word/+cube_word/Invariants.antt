-- `words::word::cube_word` meets its contract: the sign of the first column says which halves of the word hold the word of
-- the later columns; before the last six columns it says nothing. The measure is the columns left.
use Rattle.words.proofs.word.+cube_word.Given as goal

abbrev pub decreases-cube_word : goal.decreases-cube_word
decreases-cube_word l = l.columns
