-- `told::tell_function` meets its contract: each arm tells its own case of the answer.
use Rattle.telling.proofs.Telling.{function_told, function_refused-told}
use Rattle.telling.proofs.told.tell_function.Goals as goal

pub returns-in-Ok : goal.returns-in-Ok
returns-in-Ok c = function_told c.in-Ok.is

pub returns-in-Err : goal.returns-in-Err
returns-in-Err c = rw c.number.ensures (function_refused-told c.in-Err.is)
