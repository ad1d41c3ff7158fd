-- The value at a point of a row of records: the promise of the three slices, said of the row.
use Rattle.std.specs.Prelude.{◌≡◌, Bool, List, ℕ, ◌≤◌, ◌<◌, take, Result, Err}
use Rattle.rule.specs.Refusal.{first_broken, refusal_of}
use Rattle.graph.specs.Entry.{value_conditions, value_answer}
use Rattle.rule.specs.declared.refusal.Refusal.{Refusal}
use Rattle.nodes.specs.Row.{levels, lows, highs, over_refusal}
use Rattle.nodes.specs.declared.row.Node.{Node}
use Rattle.nodes.specs.declared.row.RowRef.{RowRef}
use Rattle.nodes.specs.declared.apart.Apart.{Apart}

-- The answer for the three lists of the row.
unfoldable pub row_value : (n c : ℕ) → List Node → (root point : ℕ) → Result Bool Refusal
row_value n c xs x p = value_answer (first_broken (value_conditions n c (levels xs) (lows xs) (highs xs) x p)) n (levels xs) (lows xs) (highs xs) x p

-- The same of a lent row.
abbrev pub value_in : RowRef → ℕ → ℕ → Result Bool Refusal
value_in r x p = row_value r.columns r.count r.nodes.now x p

-- The same of three arrays that hold the records of a row of some length.
pub record ValuesOn (n c size : ℕ) (t : Apart) (x p : ℕ) (r : Result Bool Refusal) : Type 0 where
  pub within : size ≤ 4096 → r ≡ value_answer (first_broken (value_conditions n c (take size t.level) (take size t.low) (take size t.high) x p)) n (take size t.level) (take size t.low) (take size t.high) x p
  pub beyond : 4096 < size → r ≡ Err (refusal_of (over_refusal n))
