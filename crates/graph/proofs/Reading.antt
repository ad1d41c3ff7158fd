-- What one look at a record decides: the half of a number, whether a number refers, the look-up from the newest record
-- on, and whether a record and a table keep their rule.
use mathlib.Core.Path.{◌≡◌, refl, sym, ap, ◌∙◌, subst⁻¹}
use mathlib.Core.Bool.{Bool, true, false, cond, not, ◌&&◌, ◌||◌}
use mathlib.Core.Logic.{◌⊎◌, inl, inr}
use Prim.Native.Nat.{ℕ, zero, suc, ◌+◌, ◌-◌, ◌<◌, ◌≤◌}
use native.Mathlib.Nat.{not-suc-le-zero}
use native.Mathlib.Numerals.{add-one}
use native.Mathlib.Omega.{arith}
use lib.Dec.{eqb, ltb, leb}
use borrow.Author.Tests.{leb-true, leb-false, lt-ltb, le-ltb, ne_eqb, eq-eqb}
use Rattle.std.specs.Prelude.{Option, Some, None}
use Rattle.std.specs.Option.{is_some}
use Rattle.rule.specs.Refusal.{some_number}
use Rattle.rule.proofs.Refusals.{some_number_none, some_number_some}
use Rattle.rule.proofs.Bools.{and_intro, and_false_r, must_be_false, not_twice, clash, which}
use Rattle.graph.specs.Table.{Table, is_at, child, half_of, refers, is_record, number_at, good_record, good_table}
use Rattle.graph.proofs.Tests.{IsRecord, is-record, record_is, good-record, good-at}

module _ (T : Table) (k : ℕ) (x : ℕ) where
  -- A number whose record has another level is its own half; one whose record has the level has a low and a high number.
  pub half_elsewhere : (d : Bool) → (T.level (x - 2) ≡ k → ⊥) → half_of T k d x ≡ x
  unfolding half_of is_at
  half_elsewhere d n =
      ap (λ b. cond (not (ltb x 2) && b) (child T d x) x) (ne_eqb (T.level (x - 2)) k n) ∙
      ap (λ b. cond b (child T d x) x) (and_false_r (not (ltb x 2)))

  half-here : (d : Bool) → 2 ≤ x → T.level (x - 2) ≡ k → half_of T k d x ≡ child T d x
  unfolding half_of is_at
  half-here d h e =
      ap (λ b. cond b (child T d x) x)
      (and_intro (not (ltb x 2)) (eqb (T.level (x - 2)) k) (ap not (le-ltb x 2 h)) (eq-eqb (T.level (x - 2)) k e))

  pub low-here : (d : Bool) → 2 ≤ x → T.level (x - 2) ≡ k → d ≡ false → half_of T k d x ≡ T.low (x - 2)
  unfolding child
  low-here d h e f = half-here d h e ∙ ap (λ b. child T b x) f

  pub high-here : (d : Bool) → 2 ≤ x → T.level (x - 2) ≡ k → d ≡ true → half_of T k d x ≡ T.high (x - 2)
  unfolding child
  high-here d h e t = half-here d h e ∙ ap (λ b. child T b x) t

  -- A number past the records in use is no reference; of any other the level decides.
  pub past_the_records : (c : ℕ) → 2 ≤ x → c ≤ x - 2 → refers T c k x ≡ false
  unfolding refers
  past_the_records c h p =
      ap (λ b. b || (ltb (x - 2) c && not (ltb (T.level (x - 2)) k))) (le-ltb x 2 h) ∙
      ap (λ b. b && not (ltb (T.level (x - 2)) k)) (le-ltb (x - 2) c p)

  pub level_decides : (c : ℕ) → 2 ≤ x → x - 2 < c → refers T c k x ≡ leb k (T.level (x - 2))
  unfolding refers
  level_decides c h u =
      ap (λ b. b || (ltb (x - 2) c && not (ltb (T.level (x - 2)) k))) (le-ltb x 2 h) ∙
      ap (λ b. b && not (ltb (T.level (x - 2)) k)) (lt-ltb (x - 2) c u) ∙
      go (which (leb k (T.level (x - 2))))
    where
      go : (leb k (T.level (x - 2)) ≡ true) ⊎ (leb k (T.level (x - 2)) ≡ false) → not (ltb (T.level (x - 2)) k) ≡ leb k (T.level (x - 2))
      go (inl t) = ap not (le-ltb (T.level (x - 2)) k (leb-true k (T.level (x - 2)) t)) ∙ sym t
      go (inr f) = ap not (lt-ltb (T.level (x - 2)) k (leb-false k (T.level (x - 2)) f)) ∙ sym f

-- A number that is 0 where there is none is none exactly if it is 0.
pub none_is_zero : (r : Option ℕ) (x : ℕ) (b : Bool) → r ≡ some_number x → is_some r ≡ not b → b ≡ eqb x 0
none_is_zero None x b e n = sym (not_twice b) ∙ ap not (sym n) ∙ sym (eq-eqb x 0 (some_number_none x (sym e)))
none_is_zero (Some y) x b e n =
    let f = some_number_some x y (sym e) in
    sym (not_twice b) ∙ ap not (sym n) ∙ sym (ne_eqb x 0 (λ z. omega (arith, f.0, f.1, z)))

-- The look-up among some records ends at the newest if that has the numbers, and else goes on with the others.
module _ (T : Table) (v : ℕ) (l : ℕ) (h : ℕ) where
  one_record : (i : ℕ) → 0 < i → number_at T i v l h ≡ cond (is_record T (i - 1) v l h) (i - 1 + 2) (number_at T (i - 1) v l h)
  unfolding number_at
  one_record zero p = absurd (not-suc-le-zero p)
  one_record (suc j) p =
      let e : suc j - 1 ≡ j = omega arith in
      subst⁻¹ (λ i. number_at T (suc j) v l h ≡ cond (is_record T i v l h) (i + 2) (number_at T i v l h)) e refl

  pub found_here : (i : ℕ) → 0 < i → IsRecord T (i - 1) v l h → number_at T i v l h ≡ i - 1 + 2
  found_here i p r =
      one_record i p ∙ ap (λ b. cond b (i - 1 + 2) (number_at T (i - 1) v l h)) (record_is T (i - 1) v l h r)

  pub not_found-here : (i : ℕ) → 0 < i → (IsRecord T (i - 1) v l h → ⊥) → number_at T i v l h ≡ number_at T (i - 1) v l h
  not_found-here i p n =
      one_record i p ∙
      ap (λ b. cond b (i - 1 + 2) (number_at T (i - 1) v l h))
      (must_be_false (is_record T (i - 1) v l h) (λ t. n (is-record T (i - 1) v l h t)))

  pub none_to_find : (i : ℕ) → i ≤ 0 → number_at T i v l h ≡ 0
  unfolding number_at
  none_to_find zero p = refl
  none_to_find (suc i) p = absurd (not-suc-le-zero p)

module _ (n : ℕ) (T : Table) where
  -- A table with no records is good, one more good record keeps it so, and one record that is not makes it bad.
  pub no_records : good_table n T 0 ≡ true
  unfolding good_table
  no_records = refl

  pub one_more-good : (i : ℕ) → good_table n T i ≡ true → good_record n T i ≡ true → good_table n T (i + 1) ≡ true
  unfolding good_table
  one_more-good i e r = ap (good_table n T) (add-one i) ∙ and_intro (good_table n T i) (good_record n T i) e r

  pub one_bad : (c : ℕ) (i : ℕ) → i < c → good_record n T i ≡ false → good_table n T c ≡ false
  one_bad c i h f =
      must_be_false (good_table n T c) (λ t. clash (good-record n T i (good-at n T c t i h)) f)
