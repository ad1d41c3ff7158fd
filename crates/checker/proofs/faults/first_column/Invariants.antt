-- `checker::faults::first_column` meets its contract. The loop's invariant: no column before `k` has a literal that can go.
use Rattle.checker.proofs.Finding.{ColumnPassed}
use Rattle.checker.proofs.faults.first_column.Given as goal

abbrev pub invariant-loop-k : goal.invariant-loop-k
invariant-loop-k l = ColumnPassed l.columns l.off l.cube l.k
