-- `told::tell_length` meets its contract: each arm tells its own case of a generation, a writing and a candidate's reading.
use Rattle.telling.proofs.Telling.{list-told, list-refused-told, written-told, written-refused-told, candidate_told, candidate_refused-told}
use Rattle.telling.proofs.told.tell_length.Goals as goal

pub returns-in-Ok-clause-list : goal.returns-in-Ok-clause-list
returns-in-Ok-clause-list c = list-told c.in-Ok.is

pub returns-in-Ok-clause-written : goal.returns-in-Ok-clause-written
returns-in-Ok-clause-written c = written-told c.in-Ok.is

pub returns-in-Ok-clause-candidate : goal.returns-in-Ok-clause-candidate
returns-in-Ok-clause-candidate c = candidate_told c.in-Ok.is

pub returns-in-Err-clause-list : goal.returns-in-Err-clause-list
returns-in-Err-clause-list c = rw c.number.ensures (list-refused-told c.in-Err.is)

pub returns-in-Err-clause-written : goal.returns-in-Err-clause-written
returns-in-Err-clause-written c = rw c.number.ensures (written-refused-told c.in-Err.is)

pub returns-in-Err-clause-candidate : goal.returns-in-Err-clause-candidate
returns-in-Err-clause-candidate c = rw c.number.ensures (candidate_refused-told c.in-Err.is)
