-- `words::table::outside` meets its contract. The loop's invariant: each word before `i` has been taken from the word of all
-- points, the rest is as it was.
use lib.ListN.{get_or}
use Rattle.words.proofs.Num.{less_word}
use Rattle.words.proofs.Loops.{SoFar}
use Rattle.words.proofs.table.outside.Given as goal

abbrev pub invariant-loop-x : goal.invariant-loop-x
invariant-loop-x l = SoFar (λ k. less_word l.w (get_or l.initial.s k 0)) l.initial.s l.s l.x-index
