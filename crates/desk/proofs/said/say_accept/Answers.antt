-- `desk::said::say_accept` meets its contract: the word, and the end of the line.
use Rattle.std.proofs.Common.{rules}
use Rattle.line.specs.Bytes.{bytes}
use Rattle.desk.specs.Judged.{Says}
use Rattle.desk.proofs.said.say_accept.Goals as goal

pub returns : goal.returns
unfolding bytes
returns c =
    let s : Says (bytes "accept\n") c.args.room.now c.end_line.new.writer.room.now c.end_line.result =
    c.end_line.ensures.says _ _ c.bytes.ensures.put
    in
    search rules
