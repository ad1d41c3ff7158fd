-- `nodes::apart::Apart::store` meets its contract: the first numbers of each array are copied over the first part of the row, and
-- at the end as many as there are.
use Rattle.std.proofs.Common.{refl, arith}
use Rattle.nodes.specs.Row.{levels, lows, highs}
use Rattle.nodes.proofs.Copying.{copied}
use Rattle.nodes.proofs.Fields.{one_in, all_in}
use Rattle.nodes.proofs.apart.Apart.store.Goals as goal

pub loop-i-init : goal.loop-i-init
unfolding copied
loop-i-init c = record { level = refl; low = refl; high = refl }

pub loop-i-preserved : goal.loop-i-preserved
unfolding levels lows highs
loop-i-preserved c = record {
  level = one_in (λ x. x.level) _ _ _ c.loop-i.i _ refl c.loop-i.invariant.level;
  low = one_in (λ x. x.low) _ _ _ c.loop-i.i _ refl c.loop-i.invariant.low;
  high = one_in (λ x. x.high) _ _ _ c.loop-i.i _ refl c.loop-i.invariant.high;
}

pub returns : goal.returns
unfolding levels lows highs
returns c = record {
  level = all_in (λ x. x.level) _ _ _ _ c.loop-i.i (omega arith) c.min-size.ensures (omega arith) c.loop-i.invariant.level;
  low = all_in (λ x. x.low) _ _ _ _ c.loop-i.i (omega arith) c.min-size.ensures (omega arith) c.loop-i.invariant.low;
  high = all_in (λ x. x.high) _ _ _ _ c.loop-i.i (omega arith) c.min-size.ensures (omega arith) c.loop-i.invariant.high;
}
