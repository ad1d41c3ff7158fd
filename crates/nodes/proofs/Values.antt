-- The value at a point of a row: that of its three lists, or the refusal of a row that is too long; and brought from three arrays
-- to the row that they were taken from.
use mathlib.Core.Path.{◌≡◌, refl, sym, ap, ◌∙◌}
use mathlib.Core.Bool.{Bool, true, false}
use mathlib.Core.List.{List}
use Prim.Native.Nat.{ℕ, ◌≤◌, ◌<◌}
use native.Mathlib.Omega.{arith}
use lib.Dec.{leb}
use lib.ListN.{length}
use borrow.Author.Tests.{leb-true, leb-false}
use Rattle.std.specs.Prelude.{Result, Err}
use Rattle.rule.specs.Refusal.{first_broken, refusal_of}
use Rattle.rule.specs.declared.refusal.Refusal.{Refusal}
use Rattle.graph.specs.Entry.{value_conditions, value_answer}
use Rattle.nodes.specs.Row.{levels, lows, highs, over_refusal, ApartOf, SharesRow}
use Rattle.nodes.specs.Value.{row_value, ValuesOn}
use Rattle.graph.specs.declared.table.TableRef.{TableRef}
use Rattle.nodes.specs.declared.row.Node.{Node}
use Rattle.nodes.specs.declared.row.RowRef.{RowRef}
use Rattle.nodes.specs.declared.apart.Apart.{Apart}
use Rattle.nodes.proofs.Parts.{apart_front}
use Rattle.nodes.proofs.Refusals.{over-refused, over-case}

module _ (n c : ℕ) (xs : List Node) (x p : ℕ) where
  pub value_ran : {m d : ℕ} {v l h : List ℕ} {r : Result Bool Refusal} → m ≡ n → d ≡ c → v ≡ levels xs → l ≡ lows xs → h ≡ highs xs
      → r ≡ value_answer (first_broken (value_conditions m d v l h x p)) m v l h x p → r ≡ row_value n c xs x p
  unfolding row_value
  value_ran s t a b d e =
      e ∙ (λ i. value_answer (first_broken (value_conditions (s i) (t i) (a i) (b i) (d i) x p)) (s i) (a i) (b i) (d i) x p)

  pub over_value : 4096 < length xs → row_value n c xs x p ≡ Err (refusal_of (over_refusal n))
  unfolding row_value value_conditions value_answer
  over_value l =
      ap (λ (k : ℕ). value_answer k n (levels xs) (lows xs) (highs xs) x p) (over-refused n c xs _ l) ∙
      over-case n (λ k. value_answer k n (levels xs) (lows xs) (highs xs) x p ≡ Err (refusal_of k)) refl refl

  -- The row is taken apart, and the value is that of the three arrays.
  pub value_loaded : (t : Apart) (r : Result Bool Refusal) → ApartOf xs t → ValuesOn n c (length xs) t x p r → r ≡ row_value n c xs x p
  value_loaded t r q on = go (leb (length xs) 4096) refl
    where
      go : (b : Bool) → leb (length xs) 4096 ≡ b → r ≡ row_value n c xs x p
      go true e =
          let m = leb-true (length xs) 4096 e in
          let before = apart_front xs t q m in
          value_ran refl refl before.level before.low before.high (on.within m)
      go false e = let m = leb-false (length xs) 4096 e in on.beyond m ∙ sym (over_value m)

-- The value was taken of the first parts of three arrays, lent as a table.
pub value_lent : (t : Apart) (row : RowRef) (u : TableRef) (x p : ℕ) {r : Result Bool Refusal} → length row.nodes.now ≤ 4096 → SharesRow t row u
    → r ≡ value_answer (first_broken (value_conditions u.columns u.count u.level.now u.low.now u.high.now x p)) u.columns u.level.now u.low.now u.high.now x p
    → ValuesOn row.columns row.count (length row.nodes.now) t x p r
value_lent t row u x p m s e = record {
  within = λ _.
      e ∙
      (λ i. value_answer (first_broken (value_conditions (s.columns i) (s.count i) (s.level i) (s.low i) (s.high i) x p)) (s.columns i) (s.level i) (s.low i) (s.high i) x p);
  beyond = λ k. let z : ⊥ = omega arith in absurd z;
}
