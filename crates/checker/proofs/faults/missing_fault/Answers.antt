-- `checker::faults::missing_fault` meets its contract: the search for the cube without literals finds the table's smallest point.
use mathlib.Core.Path.{refl}
use Rattle.checker.proofs.Finding.{missing-some, missing-none}
use Rattle.checker.proofs.faults.missing_fault.Goals as goal

pub returns-in-Some : goal.returns-in-Some
returns-in-Some c = record { fault = missing-some _ _ _ c.in-Some.ensures c.in-Some.point refl }

pub returns-in-None : goal.returns-in-None
returns-in-None c = record { fault = missing-none _ _ _ c.in-None.ensures refl }
