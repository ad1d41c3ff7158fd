-- `graph::build::TableMut::give_back` meets its contract: each slice is its first elements, and zeros after them.
use mathlib.Core.Path.{refl}
use Rattle.graph.proofs.Clearing.{filled-cleared}
use Rattle.graph.proofs.build.TableMut.give_back.Goals as goal

pub returns-clause-given : goal.returns-clause-given
returns-clause-given c =
    record {
      count = refl;
      level = filled-cleared _ _ _ (c.fill.ensures.after (λ y e. e));
      low = filled-cleared _ _ _ (c.fill-2.ensures.after (λ y e. e));
      high = filled-cleared _ _ _ (c.fill-3.ensures.after (λ y e. e));
    }
