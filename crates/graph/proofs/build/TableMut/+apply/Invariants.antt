-- `graph::build::TableMut::apply` meets its contract: each call and each way out is a law of `Applying`. The measure is the
-- columns left.
use Prim.Native.Nat.{◌-◌}
use Rattle.graph.proofs.build.TableMut.+apply.Given as goal

abbrev pub decreases-apply : goal.decreases-apply
decreases-apply l = l.self.now.columns - l.k
