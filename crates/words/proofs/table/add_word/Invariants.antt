-- `words::table::add_word` meets its contract. The loop's invariant: each word before `i` of both tables has been joined, the
-- rest is as it was.
use lib.Bits.{bit_and, bit_or}
use lib.ListN.{get_or}
use Rattle.words.proofs.Loops.{SoFar}
use Rattle.words.proofs.table.add_word.Given as goal

abbrev pub invariant-loop-i : goal.invariant-loop-i
invariant-loop-i l =
    SoFar (λ k. bit_or l.w (get_or l.initial.covered k 0)) l.initial.covered l.covered l.i ×
    SoFar (λ k. bit_or (get_or l.initial.twice k 0) (bit_and l.w (get_or l.initial.covered k 0))) l.initial.twice l.twice l.i
