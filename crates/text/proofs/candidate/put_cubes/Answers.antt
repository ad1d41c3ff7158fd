-- `text::candidate::put_cubes` meets its contract. The loop's invariant: putting the rows of what is left of the text gives the room of
-- the entry with all of them. The measure is what is left of the text.
use Rattle.std.proofs.Common.{ap, arith, length}
use Rattle.text.proofs.NextLine.{took, no_lines}
use Rattle.text.proofs.Ends.{is_end-End}
use Rattle.text.proofs.Room.{none_left}
use Rattle.text.proofs.Taken.{rows-over, rows_end, row_more, row_same, put_row-left}
use Rattle.text.proofs.candidate.put_cubes.Goals as goal

pub bounds-room-place : goal.bounds-room-place
bounds-room-place c =
    let t = took c.in-Some.is c.next_line.ensures.line c.next_line.ensures.rest in
    omega (arith, ap length (row_more _ _ _ t _ _ _ c.in-Row.is))

pub loop-line-smaller-in-Row : goal.loop-line-smaller-in-Row
loop-line-smaller-in-Row c = (took c.in-Some.is c.next_line.ensures.line c.next_line.ensures.rest).shorter

pub loop-line-preserved-in-Row : goal.loop-line-preserved-in-Row
loop-line-preserved-in-Row c =
    let t = took c.in-Some.is c.next_line.ensures.line c.next_line.ensures.rest in
    put_row-left _ _ _ t c.loop-line.invariant _ _ _ c.in-Row.is

pub loop-line-smaller : goal.loop-line-smaller
loop-line-smaller c = (took c.in-Some.is c.next_line.ensures.line c.next_line.ensures.rest).shorter

pub loop-line-preserved : goal.loop-line-preserved
loop-line-preserved c =
    let t = took c.in-Some.is c.next_line.ensures.line c.next_line.ensures.rest in
    rw (row_same _ _ _ t c.in_default-line.not-End c.in_default-line.not-Row) at c.loop-line.invariant

pub returns-in-End-clause-put : goal.returns-in-End-clause-put
returns-in-End-clause-put c =
    let t = took c.in-Some.is c.next_line.ensures.line c.next_line.ensures.rest in
    none_left (rw (rows_end _ _ _ t (is_end-End _ c.in-End.is)) at c.loop-line.invariant)

pub returns-in_default-clause-put : goal.returns-in_default-clause-put
returns-in_default-clause-put c =
    none_left (rw (rows-over _ (no_lines _ c.in_default.is c.next_line.ensures.line)) at c.loop-line.invariant)
