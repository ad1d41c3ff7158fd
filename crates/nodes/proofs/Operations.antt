-- The building operations on a row: what is promised of the three lists decides the row, and is brought from three arrays to the
-- row that they were taken from.
use mathlib.Core.Path.{◌≡◌, refl, sym, subst, subst⁻¹, ◌∙◌}
use mathlib.Core.Bool.{Bool, true, false, cond}
use mathlib.Core.List.{List}
use Prim.Native.Nat.{ℕ, suc, ◌≤◌, ◌<◌}
use native.Mathlib.Omega.{arith}
use lib.Dec.{eqb, leb}
use lib.ListN.{length, take}
use borrow.Author.Tests.{leb-true, leb-false}
use Rattle.std.specs.Prelude.{Result, Err}
use Rattle.rule.specs.Refusal.{Condition, first_broken, nodes_lack, number_of, refusal_of}
use Rattle.rule.specs.declared.refusal.Refusal.{Refusal}
use Rattle.graph.specs.Entry.{Operated, Refusing, build_conditions, left_by, cleared, numbers_of}
use Rattle.nodes.specs.Row.{levels, lows, highs, cleared_row, over_refusal, ApartOf, TogetherIn}
use Rattle.nodes.specs.Operation.{ranged_for, result_for, conditions, left_row, Operates, OperatesOn}
use Rattle.nodes.specs.declared.row.Node.{Node}
use Rattle.nodes.specs.declared.apart.Apart.{Apart}
use Rattle.nodes.specs.declared.operation.Operation.{Operation}
use Rattle.nodes.proofs.Parts.{AreWhole, CameBack, Starts, Numbers, starts_along, apart-whole, back-whole, back-starts, apart_front, together_front, together_over, together-same}
use Rattle.nodes.proofs.Refusals.{over-refused, over-case}
use Rattle.nodes.proofs.Rows.{same_row, levels-cleared, lows-cleared, highs-cleared}

-- The three lists before and after.
abbrev pub Lists : Type 0
Lists = List ℕ × List ℕ × List ℕ × List ℕ × List ℕ × List ℕ

pub along : {v w l k h g v' w' l' k' h' g' : List ℕ} → v ≡ w → l ≡ k → h ≡ g → v' ≡ w' → l' ≡ k' → h' ≡ g' → ◌≡◌ {A = Lists} (v, l, h, v', l', h') (w, k, g, w', k', g')
along p q r p' q' r' = λ i. (p i, q i, r i, p' i, q' i, r' i)

-- A field of the row that a refusal leaves.
left_field : (f : List Node → List ℕ) (c : ℕ) (xs : List Node) → f (cleared_row c xs) ≡ cleared c (f xs) → (b : Bool) → f (cond b (cleared_row c xs) xs) ≡ cond b (cleared c (f xs)) (f xs)
left_field f c xs e true = e
left_field f c xs e false = refl

module _ (op : Operation) (n c : ℕ) (xs : List Node) where
  -- The promise of the three lists of a row.
  abbrev Promised : ℕ → List Node → Result ℕ Refusal → Type 0
  Promised c' ys a = Operated n c (levels xs) (lows xs) (highs xs) (ranged_for op n c) (result_for op n (levels xs) (lows xs) (highs xs)) c' (levels ys) (lows ys) (highs ys) a

  -- It decides the row that a refusal leaves.
  of_lists : (c' : ℕ) (ys : List Node) (a : Result ℕ Refusal) → Promised c' ys a → Operates op n c xs c' ys a
  unfolding conditions left_row left_by
  of_lists c' ys a o = record {
    lists = o;
    refused = λ r e.
        let left = o.refused r e in
        same_row ys (cond (eqb (suc r) nodes_lack) (cleared_row c xs) xs) (left.level ∙ sym (left_field levels c xs (levels-cleared c xs) (eqb (suc r) nodes_lack)))
        (left.low ∙ sym (left_field lows c xs (lows-cleared c xs) (eqb (suc r) nodes_lack))) (left.high ∙ sym (left_field highs c xs (highs-cleared c xs) (eqb (suc r) nodes_lack)));
  }

  -- The operation ran on three lists that are those of the row, before and after.
  pub ran : {v l h v' l' h' : List ℕ} {c' : ℕ} {ys : List Node} {a : Result ℕ Refusal} → v ≡ levels xs → l ≡ lows xs → h ≡ highs xs → v' ≡ levels ys → l' ≡ lows ys → h' ≡ highs ys
      → Operated n c v l h (ranged_for op n c) (result_for op n v l h) c' v' l' h' a → Operates op n c xs c' ys a
  ran {c' = c'} {ys} {a} p q r p' q' r' o =
      of_lists c' ys a (subst (λ (t : Lists). Operated n c t.0 t.1 t.2 (ranged_for op n c) (result_for op n t.0 t.1 t.2) c' t.3 t.4 t.5 a) (along p q r p' q' r') o)

  -- A row of more than 4,096 records keeps its promise by its refusal alone.
  pub over-operates : 4096 < length xs → Operates op n c xs c xs (Err (refusal_of (over_refusal n)))
  unfolding build_conditions left_by numbers_of refusal_of
  over-operates l = of_lists c xs _ (over-case n (λ k. first_broken asked ≡ k → Promised c xs (Err (refusal_of k))) (at 0 (λ s. refl) refl) (at 1 (λ s. refl) refl) (over-refused n c xs _ l))
    where
      asked : List Condition
      asked = build_conditions n c (levels xs) (lows xs) (highs xs) (ranged_for op n c) (result_for op n (levels xs) (lows xs) (highs xs))

      at : (k : ℕ) → ((s : List ℕ) → s ≡ left_by (suc k) c s) → number_of (refusal_of (suc k)) ≡ suc k → first_broken asked ≡ suc k → Promised c xs (Err (refusal_of (suc k)))
      at k s m e = record {
        refused = λ r f.
            subst (λ (j : ℕ). Refusing n c (levels xs) (lows xs) (highs xs) (ranged_for op n c) (result_for op n (levels xs) (lows xs) (highs xs)) c (levels xs) (lows xs) (highs xs) j (Err (refusal_of (suc k)))) (sym e ∙ f)
            record {
              answer = refl;
              counted = refl;
              numbers = λ i. record { refusal = m i; returned = 0; root = 0; count = c };
              level = s (levels xs);
              low = s (lows xs);
              high = s (highs xs);
            };
        done = λ f. cc;
      }

  -- The row is taken apart, the operation runs on the three arrays, and they are stored.
  pub loaded_saved : (c' : ℕ) (ys : List Node) (t t' : Apart) (a : Result ℕ Refusal) → ApartOf xs t → AreWhole t' → OperatesOn op n c (length xs) t c' t' a → TogetherIn t' xs ys → Operates op n c xs c' ys a
  loaded_saved c' ys t t' a p w on s = go (leb (length xs) 4096) refl
    where
      go : (b : Bool) → leb (length xs) 4096 ≡ b → Operates op n c xs c' ys a
      go true e =
          let m = leb-true (length xs) 4096 e in
          let before = apart_front xs t p m in
          let after = together_front xs ys t' w s m in
          ran before.level before.low before.high after.level after.low after.high (on.within m)
      go false e =
          let m = leb-false (length xs) 4096 e in
          let b = on.beyond m in
          let same : ys ≡ xs = together-same xs ys t p (subst (λ (u : Apart). TogetherIn u xs ys) b.0 s) in
          subst⁻¹ (λ (us : List Node). Operates op n c xs c' us a) same
          (subst⁻¹ (λ (d : ℕ). Operates op n c xs d xs a) b.1 (subst⁻¹ (λ (r : Result ℕ Refusal). Operates op n c xs c xs r) b.2 (over-operates m)))

-- The operation ran on the first parts of three arrays, which have come back.
lent : (op : Operation) (n c : ℕ) (size : ℕ) (t t' : Apart) {v l h : List ℕ} {c' : ℕ} {a : Result ℕ Refusal} → size ≤ 4096 → Starts size t' v l h
    → Operated n c (take size t.level) (take size t.low) (take size t.high) (ranged_for op n c) (result_for op n (take size t.level) (take size t.low) (take size t.high)) c' v l h a → OperatesOn op n c size t c' t' a
lent op n c size t t' {c' = c'} {a} m s o = record {
  within = λ _.
      subst⁻¹ (λ (u : Numbers). Operated n c (take size t.level) (take size t.low) (take size t.high) (ranged_for op n c) (result_for op n (take size t.level) (take size t.low) (take size t.high)) c' u.0 u.1 u.2 a) (starts_along s) o;
  beyond = λ k. let z : ⊥ = omega arith in absurd z;
}

-- A row of at most 4,096 records: its numbers are lent, come back, and are stored in one of its length.
pub ran_back : (op : Operation) (n c : ℕ) (xs xs' ys : List Node) (t t' : Apart) {v l h : List ℕ} {c' : ℕ} {a : Result ℕ Refusal} → length xs ≤ 4096 → ApartOf xs t → CameBack (length xs) t v l h t'
    → Operated n c (take (length xs) t.level) (take (length xs) t.low) (take (length xs) t.high) (ranged_for op n c) (result_for op n (take (length xs) t.level) (take (length xs) t.low) (take (length xs) t.high)) c' v l h a
    → length xs' ≡ length xs → TogetherIn t' xs' ys → Operates op n c xs c' ys a
ran_back op n c xs xs' ys t t' {c' = c'} {a} m p b o e s =
    let w = apart-whole xs t p in
    let w' = back-whole m w b in
    loaded_saved op n c xs c' ys t t' a p w' (lent op n c (length xs) t t' m (back-starts m w b) o) (together_over xs xs' ys t' w' e m s)
