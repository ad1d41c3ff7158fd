-- `text::candidate::put_cubes` meets its contract. The loop's invariant: putting the rows of what is left of the text gives the room of
-- the entry with all of them. The measure is what is left of the text.
use Rattle.std.proofs.Common.{length, drop}
use Rattle.line.specs.Bytes.{lines}
use Rattle.text.specs.Candidate.{row_numbers}
use Rattle.text.proofs.Room.{Left}
use Rattle.text.proofs.candidate.put_cubes.Given as goal

abbrev pub invariant-loop-line : goal.invariant-loop-line
invariant-loop-line l =
    Left l.initial.room 0 (row_numbers (lines l.text)) l.room l.place (row_numbers (lines (drop l.reader.at l.reader.text.now)))

abbrev pub decreases-loop-line : goal.decreases-loop-line
decreases-loop-line l = length (drop l.reader.at l.reader.text.now)
