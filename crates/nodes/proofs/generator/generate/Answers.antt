-- `nodes::generator::generate` meets its contract: a row of more than 4,096 records is refused, and any other is taken apart, the
-- generator runs on the first numbers of the three arrays, and they are stored.
use Rattle.std.proofs.Common.{refl, arith}
use Rattle.nodes.proofs.Generating.{list_back, over-generates}
use Rattle.nodes.proofs.Refusals.{refused-by}
use Rattle.nodes.proofs.generator.generate.Goals as goal

pub returns-then-size-gt4096-clause-generates : goal.returns-then-size-gt4096-clause-generates
returns-then-size-gt4096-clause-generates c = rw (refused-by c.into.ensures c.over_refusal.ensures) (over-generates _ _ _ _ _ _ c.if-size-gt4096.true)

pub returns-clause-generates : goal.returns-clause-generates
returns-clause-generates c =
    list_back _ _ _ _ _ _ _ _ _ _ c.if-size-gt4096.false c.of.ensures
    record {
      levels-long = c.on_slices-answer.auto.level;
      lows-long = c.on_slices-answer.auto.low;
      highs-long = c.on_slices-answer.auto.high;
      level = refl;
      low = refl;
      high = refl;
    }
    c.on_slices-answer.ensures (omega arith) c.store.ensures
