-- `text::ending::after_end` meets its contract. The loop's invariant: what follows the first `.e` line of what is left of the text
-- is what follows that of the text. The measure is what is left of the text.
use Rattle.std.proofs.Common.{◌≡◌, length, drop}
use Rattle.line.specs.Meaning.{after_end}
use Rattle.text.proofs.ending.after_end.Given as goal

abbrev pub invariant-loop-line : goal.invariant-loop-line
invariant-loop-line l = after_end (drop l.reader.at l.reader.text.now) ≡ after_end l.text

abbrev pub decreases-loop-line : goal.decreases-loop-line
decreases-loop-line l = length (drop l.reader.at l.reader.text.now)
