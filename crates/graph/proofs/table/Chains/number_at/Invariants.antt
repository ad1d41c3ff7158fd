-- `graph::table::Chains::number_at` meets its contract. The loop's invariant: the records past place x are not the one, and the
-- record before it is in the bucket. The measure is x.
use Rattle.graph.specs.Lent.{read}
use Rattle.graph.proofs.Chains.{Walking}
use Rattle.graph.proofs.table.Chains.number_at.Given as goal

abbrev pub invariant-loop-x : goal.invariant-loop-x
invariant-loop-x l = Walking (read l.fn.table) l.count l.v l.l l.h l.x

abbrev pub decreases-loop-x : goal.decreases-loop-x
decreases-loop-x l = l.x
