-- `told::tell` meets its contract: each arm tells its own case of the answer.
use Rattle.telling.proofs.Telling.{done-told, refused-told}
use Rattle.telling.proofs.told.tell.Goals as goal

pub returns-in-Ok : goal.returns-in-Ok
returns-in-Ok c = done-told c.in-Ok.is

pub returns-in-Err : goal.returns-in-Err
returns-in-Err c = rw c.number.ensures (refused-told c.in-Err.is)
