-- `nodes::operation::operate` meets its contract: a row of more than 4,096 records is refused, and any other is taken apart, the
-- operation runs on the first numbers of the three arrays, and they are stored.
use Rattle.std.proofs.Common.{refl, arith}
use Rattle.nodes.proofs.Operations.{ran_back, over-operates}
use Rattle.nodes.proofs.operation.operate.Goals as goal

pub returns-then-size-gt4096-clause-operates : goal.returns-then-size-gt4096-clause-operates
returns-then-size-gt4096-clause-operates c = rw c.over_refusal.ensures (over-operates _ _ _ _ c.if-size-gt4096.true)

pub returns-clause-operates : goal.returns-clause-operates
returns-clause-operates c =
    ran_back _ _ _ _ _ _ _ _ c.if-size-gt4096.false c.of.ensures
    record {
      levels-long = c.on_slices-answer.auto.level;
      lows-long = c.on_slices-answer.auto.low;
      highs-long = c.on_slices-answer.auto.high;
      level = refl;
      low = refl;
      high = refl;
    }
    c.on_slices-answer.ensures (omega arith) c.store.ensures
