-- `nodes::reading::read` meets its contract: a row of more than 4,096 records is refused, and any other is taken apart, the text is
-- read into the first numbers of the three arrays, and they are stored.
use Rattle.std.proofs.Common.{refl}
use Rattle.nodes.proofs.Readings.{read_back, over-reads}
use Rattle.nodes.proofs.Refusals.{refused-by}
use Rattle.nodes.proofs.reading.read.Goals as goal

pub returns-then-size-gt4096 : goal.returns-then-size-gt4096
returns-then-size-gt4096 c = rw (refused-by c.into.ensures c.over_text.ensures) (over-reads _ _ c.if-size-gt4096.true)

pub returns : goal.returns
returns c =
    read_back _ _ _ _ _ c.if-size-gt4096.false c.of.ensures
    record {
      levels-long = c.read_function-answer.auto.level;
      lows-long = c.read_function-answer.auto.low;
      highs-long = c.read_function-answer.auto.high;
      level = refl;
      low = refl;
      high = refl;
    }
    c.read_function-answer.ensures c.store.ensures
