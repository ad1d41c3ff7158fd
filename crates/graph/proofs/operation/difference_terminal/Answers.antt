-- `graph::operation::difference_terminal` meets its contract: a first operand 0 and a second
-- operand 1 decide, a second operand 0 is neutral, and of equal operands nothing is left.
use mathlib.Core.Path.{refl}
use mathlib.Core.Bool.{true, false, and-false, and-true, and-not_self}
use native.Mathlib.Omega.{arith}
use Rattle.rule.specs.Point.{bit}
use Rattle.rule.specs.Func.{but_not}
use Rattle.graph.specs.Operation.{TerminalOf, op_of}
use Rattle.graph.proofs.Terminal.{first_decides, second_decides, second_neutral, equals_decide}
use Rattle.graph.proofs.operation.difference_terminal.Goals as goal
use Rattle.graph.proofs.operation.difference_terminal.Goals.{then-a-eq0-via-then-a-eq0, then-a-eq0-via-else-a-eq0+then-b-eq1, then-a-eq0-via-else-a-eq0+else-b-eq1+then-a-b}

pub returns-then-a-eq0 : goal.returns-then-a-eq0
unfolding TerminalOf bit op_of but_not
returns-then-a-eq0 c =
    elim c.then-a-eq0.branch [
      | then-a-eq0-via-then-a-eq0 w ↦ first_decides false false w.if-a-eq0.true (λ q. refl)
      | then-a-eq0-via-else-a-eq0+then-b-eq1 w ↦ second_decides true false w.if-b-eq1.true and-false
      | then-a-eq0-via-else-a-eq0+else-b-eq1+then-a-b w ↦ equals_decide false w.if-a-b.true and-not_self
    ]

pub returns-then-b-eq0 : goal.returns-then-b-eq0
unfolding TerminalOf bit op_of but_not
returns-then-b-eq0 c = second_neutral false c.if-b-eq0.true and-true

pub returns : goal.returns
unfolding TerminalOf
returns c = λ h. omega arith
