-- The verdict for a row: that of its three lists, or the refusal of a row that is too long; and brought from three arrays to the
-- row that they were taken from.
use mathlib.Core.Path.{◌≡◌, refl, sym, ap, ◌∙◌}
use mathlib.Core.Bool.{Bool, true, false}
use mathlib.Core.List.{List}
use Prim.Native.Nat.{ℕ, ◌≤◌, ◌<◌}
use native.Mathlib.Omega.{arith}
use lib.Dec.{leb}
use lib.ListN.{length}
use borrow.Author.Tests.{leb-true, leb-false}
use Rattle.std.specs.Prelude.{Result, Err}
use Rattle.rule.specs.Refusal.{refusal_of}
use Rattle.rule.specs.declared.refusal.Refused.{Refused}
use Rattle.graph.specs.Entry.{input_conditions, table_conditions}
use Rattle.checker.specs.Entry.{answer_for, refusal}
use Rattle.checker.specs.Judging.{Judged}
use Rattle.nodes.specs.Row.{levels, lows, highs, over_refusal, ApartOf, SharesRow}
use Rattle.nodes.specs.Verdict.{row_verdict, JudgesOn}
use Rattle.graph.specs.declared.table.TableRef.{TableRef}
use Rattle.nodes.specs.declared.row.Node.{Node}
use Rattle.nodes.specs.declared.row.RowRef.{RowRef}
use Rattle.nodes.specs.declared.apart.Apart.{Apart}
use Rattle.nodes.proofs.Parts.{apart_front}
use Rattle.nodes.proofs.Refusals.{over-refused, over-case}

module _ (n c : ℕ) (xs : List Node) (a b : ℕ) (list : List ℕ) where
  pub judge_ran : {m d : ℕ} {v l h : List ℕ} {r : Result Judged Refused} → m ≡ n → d ≡ c → v ≡ levels xs → l ≡ lows xs → h ≡ highs xs
      → r ≡ answer_for m d v l h a b list (refusal m d v l h a b list) → r ≡ row_verdict n c xs a b list
  unfolding row_verdict
  judge_ran t u p q s e =
      e ∙ (λ i. answer_for (t i) (u i) (p i) (q i) (s i) a b list (refusal (t i) (u i) (p i) (q i) (s i) a b list))

  pub over-verdict : 4096 < length xs → row_verdict n c xs a b list ≡ Err (record { refusal = refusal_of (over_refusal n); returned = 0 })
  unfolding row_verdict refusal input_conditions answer_for table_conditions
  over-verdict l =
      ap (answer_for n c (levels xs) (lows xs) (highs xs) a b list) (over-refused n c xs _ l) ∙
      over-case n (λ k. answer_for n c (levels xs) (lows xs) (highs xs) a b list k ≡ Err (record { refusal = refusal_of k; returned = 0 })) refl refl

  -- The row is taken apart, and the verdict is that for the three arrays.
  pub verdict_loaded : (t : Apart) (r : Result Judged Refused) → ApartOf xs t → JudgesOn n c (length xs) t a b list r → r ≡ row_verdict n c xs a b list
  verdict_loaded t r q on = go (leb (length xs) 4096) refl
    where
      go : (k : Bool) → leb (length xs) 4096 ≡ k → r ≡ row_verdict n c xs a b list
      go true e =
          let m = leb-true (length xs) 4096 e in
          let before = apart_front xs t q m in
          judge_ran refl refl before.level before.low before.high (on.within m)
      go false e = let m = leb-false (length xs) 4096 e in on.beyond m ∙ sym (over-verdict m)

-- The verdict was given for the first parts of three arrays, lent as a table.
pub verdict_lent : (t : Apart) (row : RowRef) (u : TableRef) (a b : ℕ) (list : List ℕ) {r : Result Judged Refused} → length row.nodes.now ≤ 4096 → SharesRow t row u
    → r ≡ answer_for u.columns u.count u.level.now u.low.now u.high.now a b list (refusal u.columns u.count u.level.now u.low.now u.high.now a b list)
    → JudgesOn row.columns row.count (length row.nodes.now) t a b list r
verdict_lent t row u a b list m s e = record {
  within = λ _.
      e ∙
      (λ i. answer_for (s.columns i) (s.count i) (s.level i) (s.low i) (s.high i) a b list (refusal (s.columns i) (s.count i) (s.level i) (s.low i) (s.high i) a b list));
  beyond = λ k. let z : ⊥ = omega arith in absurd z;
}
