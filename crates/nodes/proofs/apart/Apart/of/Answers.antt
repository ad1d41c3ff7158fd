-- `nodes::apart::Apart::of` meets its contract: the first numbers of each field are copied over zeros, and at the end as many as
-- there is room for.
use Rattle.std.proofs.Common.{refl}
use Rattle.nodes.specs.Row.{levels, lows, highs}
use Rattle.nodes.proofs.Copying.{copied}
use Rattle.nodes.proofs.Fields.{one_out, all_out}
use Rattle.nodes.proofs.apart.Apart.of.Goals as goal

pub loop-i-init : goal.loop-i-init
unfolding copied
loop-i-init c = record { level = refl; low = refl; high = refl }

pub loop-i-preserved : goal.loop-i-preserved
unfolding levels lows highs
loop-i-preserved c = record {
  level = one_out (λ x. x.level) _ _ _ _ c.loop-i.i _ refl c.min-size.ensures c.loop-i-test.true c.loop-i.invariant.level;
  low = one_out (λ x. x.low) _ _ _ _ c.loop-i.i _ refl c.min-size.ensures c.loop-i-test.true c.loop-i.invariant.low;
  high = one_out (λ x. x.high) _ _ _ _ c.loop-i.i _ refl c.min-size.ensures c.loop-i-test.true c.loop-i.invariant.high;
}

pub returns : goal.returns
unfolding levels lows highs
returns c = record {
  level = all_out (λ x. x.level) _ _ _ c.loop-i.i c.min-size.ensures c.loop-i-test.false c.loop-i.auto.i-end c.loop-i.invariant.level;
  low = all_out (λ x. x.low) _ _ _ c.loop-i.i c.min-size.ensures c.loop-i-test.false c.loop-i.auto.i-end c.loop-i.invariant.low;
  high = all_out (λ x. x.high) _ _ _ c.loop-i.i c.min-size.ensures c.loop-i-test.false c.loop-i.auto.i-end c.loop-i.invariant.high;
}
