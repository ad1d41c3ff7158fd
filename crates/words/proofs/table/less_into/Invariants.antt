-- `words::table::less_into` meets its contract. The loop's invariant: each word before `i` has been joined with the other
-- table's, the rest is as it was.
use lib.ListN.{get_or}
use Rattle.words.proofs.Num.{less_word}
use Rattle.words.proofs.Loops.{SoFar}
use Rattle.words.proofs.table.less_into.Given as goal

abbrev pub invariant-loop-i : goal.invariant-loop-i
invariant-loop-i l = SoFar (λ k. less_word (get_or l.initial.a k 0) (get_or l.b k 0)) l.initial.a l.a l.i
