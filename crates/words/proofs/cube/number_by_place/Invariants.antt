-- `words::cube::number_by_place` meets its contract. The loop's invariant: the digits that are left lead from `p` to the whole
-- number (`Digits`).
use Prim.Native.Nat.{◌+◌, ◌-◌}
use Rattle.words.proofs.Placing.{Digits}
use Rattle.words.proofs.cube.number_by_place.Given as goal

abbrev pub invariant-loop : goal.invariant-loop
invariant-loop l = Digits l.columns l.place (l.found + 1) (l.columns + 6 - l.counter) l.i (l.p + 1)
