-- `text::writer::Writer::number` meets its contract: a number's digits are its tenth's and its last one. The measure is the number.
use Rattle.text.proofs.writer.Writer.+number.Given as goal

abbrev pub decreases-number : goal.decreases-number
decreases-number l = l.n
