-- `text::function::name_rows` meets its contract. The loop's invariant: some rows are named, and with those of what is left of the text
-- they are all; the memo holds with the count so far. The measure is what is left of the text.
use Rattle.std.proofs.Common.{rules}
use Rattle.line.specs.Meaning.{kind_of}
use Rattle.memo.specs.Memo.{HoldsAfter}
use Rattle.text.proofs.NextLine.{took, no_lines}
use Rattle.text.proofs.Naming.{starts, table_then, row-named, named-over, named_end, named_same, named-next, named_full}
use Rattle.text.proofs.function.name_rows.Goals as goal

pub loop-line-init : goal.loop-line-init
loop-line-init c = record { same = search rules; named = starts (kind_of c.args.kind) c.args.text.now c.requires.empty; memo = c.requires.memo }

pub returns-in_err-sets-in-Row-clause-named : goal.returns-in_err-sets-in-Row-clause-named
returns-in_err-sets-in-Row-clause-named c =
    let l = c.loop-line in
    let t = took c.in-Some.is c.next_line.ensures.line c.next_line.ensures.rest in
    let f = row-named l.operations c.name_row.new.operations _ l.sets _ _ c.name_row.result l.invariant.same.slices.columns c.name_row.ensures.named in
    rw c.from_residual.ensures (named_full l.invariant.named t c.in-Row.is _ _ _ _ _ f _ l.invariant.same.slices.level-long c.in_err-sets-in-Row.was)

pub loop-line-smaller-in-Row : goal.loop-line-smaller-in-Row
loop-line-smaller-in-Row c = (took c.in-Some.is c.next_line.ensures.line c.next_line.ensures.rest).shorter

pub loop-line-preserved-in-Row : goal.loop-line-preserved-in-Row
unfolding HoldsAfter
loop-line-preserved-in-Row c =
    let l = c.loop-line in
    let t = took c.in-Some.is c.next_line.ensures.line c.next_line.ensures.rest in
    let f = row-named l.operations c.name_row.new.operations _ l.sets _ _ c.name_row.result l.invariant.same.slices.columns c.name_row.ensures.named in
    record {
      same = table_then l.invariant.same c.name_row.ensures.same;
      named = named-next l.invariant.named t c.in-Row.is _ _ _ _ _ f c.in_ok-sets-in-Row.was;
      memo = rw c.in_ok-sets-in-Row.was at c.name_row.ensures.memo;
    }

pub loop-line-smaller : goal.loop-line-smaller
loop-line-smaller c = (took c.in-Some.is c.next_line.ensures.line c.next_line.ensures.rest).shorter

pub loop-line-preserved : goal.loop-line-preserved
loop-line-preserved c =
    let l = c.loop-line in
    let t = took c.in-Some.is c.next_line.ensures.line c.next_line.ensures.rest in
    record {
      same = l.invariant.same;
      named = named_same l.invariant.named t c.in_default-line.not-End c.in_default-line.not-Row;
      memo = l.invariant.memo;
    }

pub returns-in-End-clause-named : goal.returns-in-End-clause-named
returns-in-End-clause-named c =
    let l = c.loop-line in
    let t = took c.in-Some.is c.next_line.ensures.line c.next_line.ensures.rest in
    named_end l.invariant.named t _ l.invariant.same.slices.level-long c.in-End.is

pub returns-in_default-clause-named : goal.returns-in_default-clause-named
returns-in_default-clause-named c =
    let l = c.loop-line in
    named-over l.invariant.named _ l.invariant.same.slices.level-long (no_lines _ c.in_default.is c.next_line.ensures.line)
