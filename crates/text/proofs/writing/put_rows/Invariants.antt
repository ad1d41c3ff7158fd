-- `text::writing::put_rows` meets its contract. The loop's invariant: the rows of the cubes that it has not come to are left.
use Rattle.std.proofs.Common.{drop}
use Rattle.text.specs.Writing.{rows_text}
use Rattle.text.specs.Writer.{SameRoom}
use Rattle.text.proofs.Room.{Left}
use Rattle.text.proofs.writing.put_rows.Given as goal

abbrev pub invariant-loop-cube : goal.invariant-loop-cube
invariant-loop-cube l = SameRoom l.initial.writer l.writer ×
    Left l.initial.writer.room.now l.initial.writer.at (rows_text l.columns l.list)
    l.writer.room.now l.writer.at (rows_text l.columns (drop l.cube-index l.list))
