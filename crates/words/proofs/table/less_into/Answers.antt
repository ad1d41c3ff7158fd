-- `words::table::less_into` meets its contract. The loop's invariant: each word before `i` has been joined with the other
-- table's, the rest is as it was.
use mathlib.Core.Path.{ap}
use native.Mathlib.Omega.{arith}
use lib.ListN.{get_or}
use Rattle.words.proofs.Num.{less_word}
use Rattle.words.proofs.Loops.{so_far_none, so_far_read, so_far_next, so_far_joined}
use Rattle.words.proofs.Flat.{lessened}
use Rattle.words.proofs.table.less_into.Goals as goal

pub loop-i-init : goal.loop-i-init
loop-i-init c = so_far_none _ _

pub loop-i-preserved : goal.loop-i-preserved
loop-i-preserved c =
    so_far_next c.loop-i.invariant (omega arith)
    (ap (λ x. less_word x (get_or c.args.b.now c.loop-i.i 0)) (so_far_read c.loop-i.invariant (omega arith)))

pub shape_of-a : goal.shape_of-a
shape_of-a c = c.loop-i.invariant.same

pub returns : goal.returns
returns c =
    lessened c.args.a.now c.args.b.now
    (so_far_joined less_word c.args.a.now c.args.b.now c.loop-i.invariant (omega arith) (omega arith) (omega arith))
