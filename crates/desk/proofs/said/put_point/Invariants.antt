-- `desk::said::put_point` meets its contract. The loop's invariant: the digits of the columns that it has not come to are left.
use Rattle.std.proofs.Common.{◌-◌}
use Rattle.text.specs.Writer.{SameRoom}
use Rattle.text.proofs.Room.{Left}
use Rattle.desk.specs.Said.{point_text}
use Rattle.desk.proofs.said.put_point.Given as goal

abbrev pub invariant-loop : goal.invariant-loop
invariant-loop l = SameRoom l.initial.writer l.writer ×
    Left l.initial.writer.room.now l.initial.writer.at (point_text l.columns l.point) l.writer.room.now l.writer.at (point_text (l.columns - l.counter) l.p)
