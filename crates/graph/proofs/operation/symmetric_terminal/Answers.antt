-- `graph::operation::symmetric_terminal` meets its contract: a constant decides, the other one is neutral, and equal operands
-- are the result.
use mathlib.Core.Path.{◌≡◌, refl}
use mathlib.Core.Bool.{Bool, true, false, and-false, and-true, and_self, or-true, or-false, or_self}
use mathlib.Core.Logic.{◌⊎◌, ⊎_elim}
use Prim.Native.Nat.{ℕ, ◌<◌, ◌≤◌}
use native.Mathlib.Omega.{arith}
use Rattle.std.specs.Prelude.{Some}
use Rattle.rule.specs.Point.{bit}
use Rattle.graph.specs.Operation.{TerminalOf, op_of, symmetric}
use Rattle.graph.proofs.Terminal.{first_decides, second_decides, first_neutral, second_neutral, equals_same}
use Rattle.graph.proofs.operation.symmetric_terminal.Goals as goal

module _ (a : ℕ) (b : ℕ) where
  decided : (d : Bool) → (a ≡ mir.Val.bool_byte d) ⊎ ((a ≡ mir.Val.bool_byte d → ⊥) × (b ≡ mir.Val.bool_byte d)) →
      TerminalOf (symmetric d) a b (Some (mir.Val.bool_byte d))
  unfolding TerminalOf bit op_of symmetric
  decided false = ⊎_elim (λ e. first_decides false false e (λ q. refl)) (λ e. second_decides false false e.1 and-false)
  decided true = ⊎_elim (λ e. first_decides true true e (λ q. refl)) (λ e. second_decides true true e.1 or-true)

  neutral_first : (d : Bool) → (a ≡ mir.Val.bool_byte d → ⊥) → a < 2 → TerminalOf (symmetric d) a b (Some b)
  unfolding TerminalOf bit op_of symmetric
  neutral_first false n u = let e : a ≡ 1 = omega arith in first_neutral true e (λ q. refl)
  neutral_first true n u = let e : a ≡ 0 = omega arith in first_neutral false e (λ q. refl)

  neutral_second : (d : Bool) → (b ≡ mir.Val.bool_byte d → ⊥) → (b < 2) ⊎ ((2 ≤ b) × (a ≡ b)) → TerminalOf (symmetric d) a b (Some a)
  unfolding TerminalOf bit op_of symmetric
  neutral_second false n =
      ⊎_elim (λ u. let e : b ≡ 1 = omega arith in second_neutral true e and-true) (λ e. equals_same e.1 and_self)
  neutral_second true n =
      ⊎_elim (λ u. let e : b ≡ 0 = omega arith in second_neutral false e or-false) (λ e. equals_same e.1 or_self)

pub returns-then-a-decides : goal.returns-then-a-decides
returns-then-a-decides c = decided _ _ c.args.one_decides c.then-a-decides.either

pub returns-then-a-lt2 : goal.returns-then-a-lt2
returns-then-a-lt2 c = neutral_first _ _ c.args.one_decides c.if-a-decides.false c.if-a-lt2.true

pub returns-then-b-lt2 : goal.returns-then-b-lt2
returns-then-b-lt2 c = neutral_second _ _ c.args.one_decides c.if-b-decides.false c.then-b-lt2.either

pub returns : goal.returns
unfolding TerminalOf
returns c = λ h. omega arith
