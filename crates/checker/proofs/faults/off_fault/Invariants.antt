-- `checker::faults::off_fault` meets its contract. The loop's invariant: no cube before `i` covers an off point.
use Rattle.checker.proofs.Finding.{OffPassed}
use Rattle.checker.proofs.faults.off_fault.Given as goal

abbrev pub invariant-loop-i : goal.invariant-loop-i
invariant-loop-i l = OffPassed l.columns l.off l.list l.i
