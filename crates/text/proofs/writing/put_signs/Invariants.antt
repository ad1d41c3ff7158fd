-- `text::writing::put_signs` meets its contract. The loop's invariant: the signs of the columns that it has not come to are left.
use Rattle.std.proofs.Common.{◌-◌}
use Rattle.text.specs.Writer.{SameRoom}
use Rattle.text.proofs.Room.{Left}
use Rattle.text.proofs.Written.{sign_bytes}
use Rattle.text.proofs.writing.put_signs.Given as goal

abbrev pub invariant-loop : goal.invariant-loop
invariant-loop l = SameRoom l.initial.writer l.writer ×
    Left l.initial.writer.room.now l.initial.writer.at (sign_bytes l.columns l.ones l.zeros)
    l.writer.room.now l.writer.at (sign_bytes (l.columns - l.counter) l.o l.z)
