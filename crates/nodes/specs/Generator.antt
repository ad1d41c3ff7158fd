-- The list generator on a row of records: the promises of the three slices, said of the row.
use Rattle.std.specs.Prelude.{◌≡◌, cond, List, ℕ, ◌≤◌, ◌<◌, take, Result, Err}
use Rattle.list.specs.Entry.{refusal, changes_nothing, Generates}
use Rattle.rule.specs.Refusal.{refusal_of}
use Rattle.rule.specs.declared.refusal.Refused.{Refused}
use Rattle.nodes.specs.Row.{levels, lows, highs, cleared_row, over_refusal}
use Rattle.nodes.specs.declared.row.Node.{Node}
use Rattle.nodes.specs.declared.apart.Apart.{Apart}
use Rattle.nodes.specs.declared.row.RowMut.{RowMut}

module _ (n c : ℕ) (xs : List Node) (a b : ℕ) (room : List ℕ) where
  -- The number of the first broken condition for the three lists of the row, or 0.
  unfoldable pub row_refusal : ℕ
  row_refusal = refusal n c (levels xs) (lows xs) (highs xs) a b room

  -- The row that is left: numbers 1 to 6 change nothing; otherwise the records in use are unchanged and all others zero.
  unfoldable pub row_left : List Node
  row_left = cond (changes_nothing n c (levels xs) (lows xs) (highs xs) a b room row_refusal) xs (cleared_row c xs)

  -- What the generator promises of the row, the room and the answer.
  pub record RowGenerates (c' : ℕ) (ys : List Node) (room' : List ℕ) (r : Result ℕ Refused) : Type 0 where
    pub lists : Generates n c (levels xs) (lows xs) (highs xs) a b room c' (levels ys) (lows ys) (highs ys) room' r
    pub row : ys ≡ row_left

-- The same of a lent row.
abbrev pub GeneratesIn : RowMut → ℕ → ℕ → List ℕ → RowMut → List ℕ → Result ℕ Refused → Type 0
GeneratesIn r a b room r' room' answer = RowGenerates r.columns r.count r.nodes.now a b room r'.count r'.nodes.now room' answer

-- The same of three arrays that hold the records of a row of some length.
pub record GeneratesOn (n c size : ℕ) (t : Apart) (a b : ℕ) (room : List ℕ) (c' : ℕ) (t' : Apart) (room' : List ℕ) (r : Result ℕ Refused) : Type 0 where
  pub within : size ≤ 4096 → Generates n c (take size t.level) (take size t.low) (take size t.high) a b room c' (take size t'.level) (take size t'.low) (take size t'.high) room' r
  pub beyond : 4096 < size → (t' ≡ t) × (c' ≡ c) × (room' ≡ room) × (r ≡ Err (record { refusal = refusal_of (over_refusal n); returned = 0 }))
