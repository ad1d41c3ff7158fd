-- `told::tell_value` meets its contract: each arm tells its own case of the answer.
use Rattle.telling.proofs.Telling.{value_told, denied_told}
use Rattle.telling.proofs.told.tell_value.Goals as goal

pub returns-in-Ok : goal.returns-in-Ok
returns-in-Ok c = value_told c.in-Ok.is

pub returns-in-Err : goal.returns-in-Err
returns-in-Err c = rw c.number.ensures (denied_told c.in-Err.is)
