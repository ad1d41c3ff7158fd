-- A function text read into a row of records: the promises of the three slices, said of the row.
use Rattle.std.specs.Prelude.{◌≡◌, false, cond, ◌||◌, List, [], ◌∷◌, ℕ, suc, ◌≤◌, ◌<◌, eqb, leb, length, take, Result, Err}
use Rattle.rule.specs.Refusal.{first_broken, text_over, table_over, refusal_of}
use Rattle.text.specs.Function.{function_refusal, ReadsFunction}
use Rattle.text.specs.declared.function.Function.{Function}
use Rattle.rule.specs.declared.refusal.Refused.{Refused}
use Rattle.nodes.specs.Row.{levels, lows, highs, cleared_row}
use Rattle.nodes.specs.declared.row.Node.{Node}
use Rattle.nodes.specs.declared.apart.Apart.{Apart}

module _ (text : List ℕ) (xs : List Node) where
  -- The row that a refusal leaves: 10 and 2 change nothing, the others leave it all zero.
  unfoldable pub left_unread : ℕ → List Node
  left_unread r = cond (eqb r text_over || eqb r table_over) xs (cleared_row 0 xs)

  -- What reading promises of the row and the answer.
  pub record RowReads (ys : List Node) (a : Result Function Refused) : Type 0 where
    pub lists : ReadsFunction text (levels xs) (lows xs) (highs xs) (levels ys) (lows ys) (highs ys) a
    pub refused : (r : ℕ) → function_refusal text (levels xs) (lows xs) (highs xs) ≡ suc r → ys ≡ left_unread (suc r)

-- The refusal of a row of more than 4,096 records: 10 for a text over 32,768 bytes, else 2.
unfoldable pub over_text : List ℕ → ℕ
over_text text = first_broken (record { number = text_over; kept = leb (length text) 32768 } ∷ record { number = table_over; kept = false } ∷ [])

-- The same of three arrays that hold the records of a row of some length.
pub record ReadsOn (text : List ℕ) (size : ℕ) (t t' : Apart) (a : Result Function Refused) : Type 0 where
  pub within : size ≤ 4096 → ReadsFunction text (take size t.level) (take size t.low) (take size t.high) (take size t'.level) (take size t'.low) (take size t'.high) a
  pub beyond : 4096 < size → (t' ≡ t) × (a ≡ Err (record { refusal = refusal_of (over_text text); returned = 0 }))
