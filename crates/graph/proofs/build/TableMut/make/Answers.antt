-- `graph::build::TableMut::make` meets its contract: each way out is a law of `Making`.
use mathlib.Core.Path.{refl, ◌∙◌}
use native.Mathlib.Omega.{arith}
use Rattle.graph.specs.Built.{MadeOf}
use Rattle.graph.proofs.Lending.{read_number}
use Rattle.graph.proofs.Making.{made_equal, made_found, made_full, made_new, not_there}
use Rattle.graph.proofs.build.TableMut.make.Goals as goal

pub returns-then-l-h-clause-made : goal.returns-then-l-h-clause-made
unfolding MadeOf
returns-then-l-h-clause-made c = λ m e. made_equal _ _ _ _ _ _ _ _ c.requires m e c.if-l-h.true

pub returns-in-Some-clause-made : goal.returns-in-Some-clause-made
returns-in-Some-clause-made c =
    λ m e. made_found _ _ _ _ _ _ _ _ c.requires m e _ (c.in-Some.ensures ∙ read_number _ _ c.reading.ensures _ _ _)

pub returns-then-self-clause-made : goal.returns-then-self-clause-made
unfolding MadeOf
returns-then-self-clause-made c =
    let none = not_there _ (c.in_default.ensures ∙ read_number _ _ c.reading.ensures _ _ _) in
    λ m e. made_full _ _ _ _ _ _ _ _ c.requires m e c.if-l-h.false none c.if-self.true

pub returns-then-self-clause-kept : goal.returns-then-self-clause-kept
returns-then-self-clause-kept c = λ e. refl

pub returns-clause-made : goal.returns-clause-made
unfolding MadeOf
returns-clause-made c =
    let none = not_there _ (c.in_default.ensures ∙ read_number _ _ c.reading.ensures _ _ _) in
    λ m e.
    made_new _ _ _ _ _ _ _ _ c.requires m e c.if-l-h.false none (omega (arith, c.requires.sound.sized.count, c.if-self.false))
