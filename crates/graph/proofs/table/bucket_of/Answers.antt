-- `graph::table::bucket_of` meets its contract: it computes the definition.
use mathlib.Core.Path.{refl}
use Rattle.graph.specs.Chain.{bucket_of}
use Rattle.graph.proofs.table.bucket_of.Goals as goal

pub returns : goal.returns
unfolding bucket_of
returns c = refl
