-- `text::writer::Writer::bytes` meets its contract: the bytes stand in the room's part as they are in the word.
use Rattle.text.proofs.Room.{copied-put}
use Rattle.text.proofs.writer.Writer.bytes.Goals as goal

pub returns-clause-put : goal.returns-clause-put
returns-clause-put c = copied-put c.args.self.now.room.now c.args.self.now.at c.args.word.now _ c.requires c.copy_from_slice.ensures.after
