-- `text::function::settle_function` meets its contract: what was built is settled by `Settling`.
use Rattle.std.proofs.Common.{arith}
use Rattle.text.specs.Function.{BuiltOf}
use Rattle.text.proofs.Settling.{done_settled, refused_settled}
use Rattle.text.proofs.function.settle_function.Goals.{in-Ok, in-Err}
use Rattle.text.proofs.function.settle_function.Goals as goal

pub give_back-requires : goal.give_back-requires
unfolding BuiltOf
give_back-requires c = elim c.match-built.branch [
  | in-Ok w ↦
      let s = (rw w.in-Ok.is at c.build_function-built.ensures.built).sound.sized in
      (omega (arith, w.kept-is, s.count), omega (arith, w.kept-is, s.count, s.low), omega (arith, w.kept-is, s.count, s.high))
  | in-Err w ↦ (omega (arith, w.kept-is), omega (arith, w.kept-is), omega (arith, w.kept-is))
]

pub returns-clause-settled : goal.returns-clause-settled
unfolding BuiltOf
returns-clause-settled c = elim c.match-built.branch [
  | in-Ok w ↦
      let g = rw w.kept-is at c.give_back.ensures.given in
      rw w.built-is (done_settled _ _ _ _ _ _ _ _ _ _ _ _ w.in-Ok.function (rw w.in-Ok.is at c.build_function-built.ensures.built) g.level g.low g.high)
  | in-Err w ↦
      let g = rw w.kept-is at c.give_back.ensures.given in
      rw (w.built-is, w.in-Err.is)
      (refused_settled _ _ _ _ _ _ _ _ _ _ _ _ c.requires.empty.1 w.in-Err.field-0 (rw w.in-Err.is at c.build_function-built.ensures.built) g.level g.low g.high)
]
