-- `graph::entry::in_range` meets its contract: it is the test itself.
use mathlib.Core.Path.{refl}
use Rattle.graph.specs.Entry.{in_range}
use Rattle.graph.proofs.entry.in_range.Goals as goal

pub returns : goal.returns
unfolding in_range
returns c = refl
