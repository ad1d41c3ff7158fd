-- `words::table::outside` meets its contract. The loop's invariant: each word before `i` has been taken from the word of all
-- points, the rest is as it was.
use mathlib.Core.Path.{ap}
use native.Mathlib.Omega.{arith}
use Rattle.words.proofs.Num.{less_word}
use Rattle.words.proofs.Loops.{so_far_none, so_far_read, so_far_next}
use Rattle.words.proofs.Flat.{outside_end}
use Rattle.words.proofs.table.outside.Goals as goal

pub loop-x-init : goal.loop-x-init
loop-x-init c = so_far_none _ _

pub loop-x-preserved : goal.loop-x-preserved
loop-x-preserved c =
    so_far_next c.loop-x.invariant (omega arith)
    (ap (less_word c.constant_word-w.result) (so_far_read c.loop-x.invariant (omega arith)))

pub shape_of-s : goal.shape_of-s
shape_of-s c = c.loop-x.invariant.same

pub returns : goal.returns
returns c =
    let w = c.constant_word-w in
    outside_end c.args.columns w.result c.args.s.now w.ensures c.requires c.loop-x.invariant (omega arith)
