-- `checker::faults::cube_fault` meets its contract. The loop's invariant: no cube before `i` can go.
use Rattle.checker.proofs.Finding.{CubePassed}
use Rattle.checker.proofs.faults.cube_fault.Given as goal

abbrev pub invariant-loop-i : goal.invariant-loop-i
invariant-loop-i l = CubePassed l.columns l.lone l.list l.i
