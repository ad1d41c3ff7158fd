-- `text::ending::after_end` meets its contract. The loop's invariant: what follows the first `.e` line of what is left of the text
-- is what follows that of the text. The measure is what is left of the text.
use Rattle.std.proofs.Common.{◌≡◌, ap, ◌∙◌, drop}
use Rattle.line.specs.Meaning.{after_end}
use Rattle.line.proofs.Runs.{take_rest}
use Rattle.text.specs.Reader.{rest_after}
use Rattle.text.proofs.NextLine.{took}
use Rattle.text.proofs.Ends.{is_end-End, is_end-others, nothing_left, ends_here, ends_later}
use Rattle.text.proofs.ending.after_end.Goals.{in-Some+in-End, in_default}
use Rattle.text.proofs.ending.after_end.Goals as goal

pub loop-line-smaller : goal.loop-line-smaller
loop-line-smaller c = (took c.in-Some.is c.next_line.ensures.line c.next_line.ensures.rest).shorter

pub loop-line-preserved : goal.loop-line-preserved
loop-line-preserved c =
    ap after_end c.next_line.ensures.rest ∙
    ends_later _ _ _ c.in-Some.is c.next_line.ensures.line (is_end-others _ c.in_default-line.not-End) ∙ c.loop-line.invariant

pub returns : goal.returns
returns c =
    let left : rest_after (drop c.loop-line.reader.at c.loop-line.reader.text.now) ≡ after_end (drop c.loop-line.reader.at c.loop-line.reader.text.now) = elim c.match-next_line.branch [
      | in-Some+in-End w ↦ ends_here _ _ _ w.in-Some.is c.next_line.ensures.line (is_end-End _ w.in-End.is)
      | in_default w ↦ nothing_left _ w.in_default.is c.next_line.ensures.line
    ] in
    take_rest c.next_line.new.self.text.now c.next_line.new.self.at ∙ c.next_line.ensures.rest ∙ left ∙ c.loop-line.invariant
