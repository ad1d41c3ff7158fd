-- The verdict on a list for a row of records: the promise of the three slices, said of the row.
use Rattle.std.specs.Prelude.{◌≡◌, List, ℕ, ◌≤◌, ◌<◌, take, Result, Err}
use Rattle.checker.specs.Entry.{answer_for, refusal}
use Rattle.checker.specs.Judging.{Judged}
use Rattle.rule.specs.Refusal.{refusal_of}
use Rattle.rule.specs.declared.refusal.Refused.{Refused}
use Rattle.nodes.specs.Row.{levels, lows, highs, over_refusal}
use Rattle.nodes.specs.declared.row.Node.{Node}
use Rattle.nodes.specs.declared.row.RowRef.{RowRef}
use Rattle.nodes.specs.declared.apart.Apart.{Apart}

-- The answer for the three lists of the row.
unfoldable pub row_verdict : (n c : ℕ) → List Node → (lower upper : ℕ) → List ℕ → Result Judged Refused
row_verdict n c xs a b list = answer_for n c (levels xs) (lows xs) (highs xs) a b list (refusal n c (levels xs) (lows xs) (highs xs) a b list)

-- The same of a lent row.
abbrev pub verdict_in : RowRef → ℕ → ℕ → List ℕ → Result Judged Refused
verdict_in r a b list = row_verdict r.columns r.count r.nodes.now a b list

-- The same of three arrays that hold the records of a row of some length.
pub record JudgesOn (n c size : ℕ) (t : Apart) (a b : ℕ) (list : List ℕ) (r : Result Judged Refused) : Type 0 where
  pub within : size ≤ 4096 → r ≡ answer_for n c (take size t.level) (take size t.low) (take size t.high) a b list (refusal n c (take size t.level) (take size t.low) (take size t.high) a b list)
  pub beyond : 4096 < size → r ≡ Err (record { refusal = refusal_of (over_refusal n); returned = 0 })
