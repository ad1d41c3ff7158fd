-- The operations, and what is known of a result without taking columns apart.
use Rattle.std.specs.Prelude.{◌≡◌, Bool, true, false, ◌&&◌, ◌||◌, ℕ, ◌<◌, Option, Some, None}
use Rattle.rule.specs.Func.{joined, but_not}
use Rattle.graph.specs.Table.{Table, fn_of, refers}
use Rattle.graph.specs.declared.operation.Op.{Op}
use Rattle.graph.specs.declared.operation.Op.TheVariants.{And, Or, Difference}

-- An operation on truth values: and, or, first and not second.
unfoldable pub op_of : Op → Bool → Bool → Bool
op_of And = ◌&&◌
op_of Or = ◌||◌
op_of Difference = but_not

-- A known number is the result in every table and over any columns: it refers wherever both operands do, and its
-- function is the operation of theirs.
pub record Right (op : Op) (a : ℕ) (b : ℕ) (x : ℕ) : Type 0 where
  pub number : (T : Table) (c : ℕ) (k : ℕ) → refers T c k a ≡ true → refers T c k b ≡ true → refers T c k x ≡ true
  pub means : (T : Table) (k : ℕ) (m : ℕ) → fn_of T k m x ≡ joined (op_of op) m (fn_of T k m a) (fn_of T k m b)

-- Operands are split only if they are not both constants.
unfoldable pub TerminalOf : Op → ℕ → ℕ → Option ℕ → Type 0
TerminalOf op a b (Some x) = Right op a b x
TerminalOf op a b None = (a < 2) × (b < 2) → ⊥

-- The operation that is the same in both operands and that a constant decides: 0 and, 1 or.
unfoldable pub symmetric : Bool → Op
symmetric false = And
symmetric true = Or
