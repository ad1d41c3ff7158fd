-- `text::function::name_rows` meets its contract. The loop's invariant: some rows are named, and with those of what is left of the text
-- they are all; the memo holds with the count so far. The measure is what is left of the text.
use Rattle.std.proofs.Common.{length, drop}
use Rattle.line.specs.Meaning.{kind_of}
use Rattle.memo.specs.Memo.{SameTable, HoldsIn}
use Rattle.text.proofs.Naming.{SoFar}
use Rattle.text.proofs.function.name_rows.Given as goal

abbrev pub invariant-loop-line : goal.invariant-loop-line
invariant-loop-line l = record {
  same : SameTable l.initial.operations l.operations;
  named : SoFar
      l.initial.operations.table.now.columns (kind_of l.kind) l.text (drop l.reader.at l.reader.text.now) l.operations.table.now.level.now
      l.operations.table.now.low.now l.operations.table.now.high.now l.sets.on l.sets.other l.operations.table.now.count;
  memo : HoldsIn l.operations;
}

abbrev pub decreases-loop-line : goal.decreases-loop-line
decreases-loop-line l = length (drop l.reader.at l.reader.text.now)
