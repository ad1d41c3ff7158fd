-- The building operations on a row of records: the promises of the three slices, said of the row.
use Rattle.std.specs.Prelude.{◌≡◌, Bool, cond, ◌&&◌, List, ℕ, suc, ◌≤◌, ◌<◌, eqb, ltb, take, Result, Err}
use Rattle.rule.specs.Func.{Fn}
use Rattle.rule.specs.Refusal.{Condition, first_broken, nodes_lack, refusal_of}
use Rattle.graph.specs.Entry.{Operated, build_conditions, in_range, result_of, variable_fn}
use Rattle.rule.specs.declared.refusal.Refusal.{Refusal}
use Rattle.nodes.specs.Row.{levels, lows, highs, cleared_row, over_refusal}
use Rattle.nodes.specs.declared.row.Node.{Node}
use Rattle.nodes.specs.declared.apart.Apart.{Apart}
use Rattle.nodes.specs.declared.operation.Operation.{Operation}
use Rattle.nodes.specs.declared.operation.Operation.TheVariants.{Variable, Of}
use Rattle.nodes.specs.declared.row.RowMut.{RowMut}

-- Whether the operands are in range: a column of the table, or two roots.
unfoldable pub ranged_for : Operation → ℕ → ℕ → Bool
ranged_for (Variable k) n c = ltb k n
ranged_for (Of op a b) n c = in_range c a && in_range c b

-- The function that the operation names.
unfoldable pub result_for : Operation → (n : ℕ) → List ℕ → List ℕ → List ℕ → Fn n
result_for (Variable k) n v l h = variable_fn n k
result_for (Of op a b) n v l h = result_of op n v l h a b

module _ (op : Operation) (n : ℕ) (c : ℕ) (xs : List Node) where
  -- What is asked, of the three lists of the row.
  unfoldable pub conditions : List Condition
  conditions = build_conditions n c (levels xs) (lows xs) (highs xs) (ranged_for op n c) (result_for op n (levels xs) (lows xs) (highs xs))

  -- The row that a refusal leaves: 7 clears the records past the count, every other one changes nothing.
  unfoldable pub left_row : ℕ → List Node
  left_row r = cond (eqb r nodes_lack) (cleared_row c xs) xs

  -- What an operation promises of the row and the answer.
  pub record Operates (c' : ℕ) (ys : List Node) (a : Result ℕ Refusal) : Type 0 where
    pub lists : Operated n c (levels xs) (lows xs) (highs xs) (ranged_for op n c) (result_for op n (levels xs) (lows xs) (highs xs)) c' (levels ys) (lows ys) (highs ys) a
    pub refused : (r : ℕ) → first_broken conditions ≡ suc r → ys ≡ left_row (suc r)

-- The same of a lent row.
abbrev pub OperatesIn : Operation → RowMut → RowMut → Result ℕ Refusal → Type 0
OperatesIn op r r' a = Operates op r.columns r.count r.nodes.now r'.count r'.nodes.now a

-- The same of three arrays that hold the records of a row of some length.
pub record OperatesOn (op : Operation) (n : ℕ) (c : ℕ) (size : ℕ) (t : Apart) (c' : ℕ) (t' : Apart) (a : Result ℕ Refusal) : Type 0 where
  pub within : size ≤ 4096 → Operated n c (take size t.level) (take size t.low) (take size t.high) (ranged_for op n c) (result_for op n (take size t.level) (take size t.low) (take size t.high)) c' (take size t'.level) (take size t'.low) (take size t'.high) a
  pub beyond : 4096 < size → (t' ≡ t) × (c' ≡ c) × (a ≡ Err (refusal_of (over_refusal n)))
