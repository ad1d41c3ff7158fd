-- `listmemo::copy::copy` meets its contract. The loop's invariant is what `Halfway` says after i cubes.
use Rattle.listmemo.proofs.Halfway.{Halfway}
use Rattle.listmemo.proofs.copy.copy.Given as goal

abbrev pub invariant-loop-i : goal.invariant-loop-i
invariant-loop-i l = Halfway l.initial.room l.list.from l.at l.list.size l.list.literals l.chosen l.i l.room
