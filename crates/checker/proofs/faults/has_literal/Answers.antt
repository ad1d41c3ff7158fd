-- `checker::faults::has_literal` meets its contract: a column has a literal if its bit is set in either half.
use Rattle.checker.proofs.Finding.{first_set, second_decides}
use Rattle.checker.proofs.faults.has_literal.Goals as goal

pub returns-then-cube-k-eq1 : goal.returns-then-cube-k-eq1
returns-then-cube-k-eq1 c = first_set _ _ c.if-cube-k-eq1.true

pub returns-else-cube-k-eq1 : goal.returns-else-cube-k-eq1
returns-else-cube-k-eq1 c = second_decides _ _ c.if-cube-k-eq1.false
