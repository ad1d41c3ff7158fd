-- `checker::faults::literal_fault` meets its contract. The loop's invariant: no cube before `i` has a literal that can go.
use Rattle.checker.proofs.Finding.{LiteralPassed}
use Rattle.checker.proofs.faults.literal_fault.Given as goal

abbrev pub invariant-loop-i : goal.invariant-loop-i
invariant-loop-i l = LiteralPassed l.columns l.off l.list l.i
