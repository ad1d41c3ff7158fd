-- `desk::said::end_line` meets its contract: what was put before, byte 10, and zeros.
use Rattle.line.specs.Bytes.{bytes}
use Rattle.desk.proofs.Saying.{line_ended}
use Rattle.desk.proofs.said.end_line.Goals as goal

pub returns-clause-says : goal.returns-clause-says
unfolding bytes
returns-clause-says c = λ old w p.
    let e = c.clear_rest.ensures.cleared in rw e.place (line_ended p c.byte.ensures.put e.room c.requires)
