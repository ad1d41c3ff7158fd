-- `checker::faults::cover` meets its contract. The loop's invariant: the tables are those of the cubes that were taken from the end.
use Rattle.checker.proofs.Finding.{Covering}
use Rattle.checker.proofs.faults.cover.Given as goal

abbrev pub invariant-loop-cube : goal.invariant-loop-cube
invariant-loop-cube l = Covering l.columns l.list l.cube-iterator.iter.rest.now l.covered l.twice
