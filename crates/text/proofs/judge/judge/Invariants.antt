-- `text::judge::judge` meets its contract. The loop's invariant: what was said so far and what is left of the text give the whole answer,
-- and the rows and the lines so far are no more than the bytes. The measure is what is left of the text.
use Rattle.std.proofs.Common.{◌≡◌, ◌≤◌, ◌+◌, length, drop}
use Rattle.line.specs.Bytes.{lines}
use Rattle.text.specs.Outcome.{run, outcome}
use Rattle.text.specs.Judged.{judged_plus, judged}
use Rattle.text.proofs.judge.judge.Given as goal

abbrev pub invariant-loop-line : goal.invariant-loop-line
invariant-loop-line l = record {
  told : judged_plus l.state.rows (run l.asked l.state l.k (lines (drop l.reader.at l.reader.text.now))) ≡ judged (outcome l.asked l.text);
  few : l.state.rows + length (drop l.reader.at l.reader.text.now) ≤ length l.text;
  line : l.k + length (drop l.reader.at l.reader.text.now) ≤ length l.text + 1;
}

abbrev pub decreases-loop-line : goal.decreases-loop-line
decreases-loop-line l = length (drop l.reader.at l.reader.text.now)
