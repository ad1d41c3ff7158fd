-- `told::tell_verdict` meets its contract: a refusal is told as such. The check proves the other arm alone.
use Rattle.telling.proofs.Telling.{check_refused-told}
use Rattle.telling.proofs.told.tell_verdict.Goals as goal

pub returns-in-Err : goal.returns-in-Err
returns-in-Err c = rw c.number.ensures (check_refused-told c.in-Err.is)
