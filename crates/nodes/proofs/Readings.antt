-- A function text read into a row: what is promised of the three lists decides the row, and is brought from three arrays to the
-- row that they were taken from.
use mathlib.Core.Path.{◌≡◌, refl, sym, subst, subst⁻¹, ◌∙◌}
use mathlib.Core.Bool.{Bool, true, false, cond, ◌||◌, ◌&&◌, true≢false}
use mathlib.Core.List.{List}
use Prim.Native.Nat.{ℕ, suc, ◌≤◌, ◌<◌}
use native.Mathlib.Omega.{arith}
use lib.Dec.{eqb, leb}
use lib.ListN.{length, take}
use borrow.Author.Tests.{leb-true, leb-false}
use Rattle.std.specs.Prelude.{Result, Err}
use Rattle.rule.specs.Refusal.{first_broken, text_over, table_over, number_of, refusal_of}
use Rattle.rule.specs.declared.refusal.Refused.{Refused}
use Rattle.text.specs.Function.{function_conditions, function_refusal, function_numbers, function_returns, table_left, NotRead, ReadsFunction}
use Rattle.text.specs.declared.function.Function.{Function}
use Rattle.nodes.specs.Row.{levels, lows, highs, cleared_row, ApartOf, TogetherIn}
use Rattle.nodes.specs.Reading.{left_unread, over_text, RowReads, ReadsOn}
use Rattle.nodes.specs.declared.row.Node.{Node}
use Rattle.nodes.specs.declared.apart.Apart.{Apart}
use Rattle.nodes.proofs.Operations.{Lists, along}
use Rattle.nodes.proofs.Generating.{left_field}
use Rattle.nodes.proofs.Parts.{AreWhole, CameBack, Starts, Numbers, starts_along, apart-whole, back-whole, back-starts, apart_front, together_front, together-same}
use Rattle.nodes.proofs.Refusals.{too_long}
use Rattle.nodes.proofs.Rows.{same_row, levels-cleared, lows-cleared, highs-cleared}

last_fails : (a b t : Bool) → t ≡ false → (a && b && t) ≡ false
last_fails a b true e = absurd (true≢false e)
last_fails true true false e = refl
last_fails true false false e = refl
last_fails false b false e = refl

module _ (text : List ℕ) (xs : List Node) where
  -- The promise of the three lists of a row.
  abbrev Promised : List Node → Result Function Refused → Type 0
  Promised ys a = ReadsFunction text (levels xs) (lows xs) (highs xs) (levels ys) (lows ys) (highs ys) a

  -- It decides the row that a refusal leaves.
  of_lists : (ys : List Node) (a : Result Function Refused) → Promised ys a → RowReads text xs ys a
  unfolding left_unread table_left
  of_lists ys a o = record {
    lists = o;
    refused = λ r e.
        let left = o.refused r e in
        let t : Bool = eqb (suc r) text_over || eqb (suc r) table_over in
        same_row ys (cond t xs (cleared_row 0 xs)) (left.level ∙ sym (left_field levels 0 xs (levels-cleared 0 xs) t)) (left.low ∙ sym (left_field lows 0 xs (lows-cleared 0 xs) t)) (left.high ∙ sym (left_field highs 0 xs (highs-cleared 0 xs) t));
  }

  -- The text was read into three lists that are those of the row, before and after.
  pub read_ran : {v l h v' l' h' : List ℕ} {ys : List Node} {a : Result Function Refused} → v ≡ levels xs → l ≡ lows xs → h ≡ highs xs → v' ≡ levels ys → l' ≡ lows ys → h' ≡ highs ys
      → ReadsFunction text v l h v' l' h' a → RowReads text xs ys a
  read_ran {ys = ys} {a} p q s p' q' s' g =
      of_lists ys a (subst (λ (t : Lists). ReadsFunction text t.0 t.1 t.2 t.3 t.4 t.5 a) (along p q s p' q' s') g)

  -- A row of more than 4,096 records is refused, whatever the text says.
  over-refused : 4096 < length xs → function_refusal text (levels xs) (lows xs) (highs xs) ≡ over_text text
  unfolding function_refusal function_conditions over_text first_broken
  over-refused l = rw (last_fails (eqb (length (lows xs)) (length (levels xs))) (eqb (length (highs xs)) (length (levels xs))) (leb (length (levels xs)) 4096) (too_long xs l)) refl

  -- What holds of both numbers holds of that refusal.
  over-case : (P : ℕ → Type 0) → P 10 → P 2 → P (over_text text)
  unfolding over_text first_broken
  over-case P p q = go (leb (length text) 32768)
    where
      go : (b : Bool) → P (cond b 2 10)
      go true = q
      go false = p

  -- It keeps its promise by that refusal alone.
  pub over-reads : 4096 < length xs → RowReads text xs xs (Err (record { refusal = refusal_of (over_text text); returned = 0 }))
  unfolding function_returns function_numbers table_left refusal_of
  over-reads l = of_lists xs _ (over-case (λ k. function_refusal text (levels xs) (lows xs) (highs xs) ≡ k → Promised xs (Err (record { refusal = refusal_of k; returned = 0 }))) (at 9 (λ s. refl) refl refl) (at 1 (λ s. refl) refl refl) (over-refused l))
    where
      at : (k : ℕ) → ((s : List ℕ) → s ≡ table_left (suc k) s) → 0 ≡ function_returns text (suc k) → number_of (refusal_of (suc k)) ≡ suc k
          → function_refusal text (levels xs) (lows xs) (highs xs) ≡ suc k → Promised xs (Err (record { refusal = refusal_of (suc k); returned = 0 }))
      at k s z m e = record {
        refused = λ r f.
            subst (λ (j : ℕ). NotRead text (levels xs) (lows xs) (highs xs) (levels xs) (lows xs) (highs xs) j (Err (record { refusal = refusal_of (suc k); returned = 0 }))) (sym e ∙ f)
            record {
              answer = λ i. Err (record { refusal = refusal_of (suc k); returned = z i });
              numbers = λ i. record { refusal = m i; returned = z i; columns = 0; count = 0; lower = 0; upper = 0 };
              level = s (levels xs);
              low = s (lows xs);
              high = s (highs xs);
            };
        done = λ f. cc;
      }

  -- The row is taken apart, the text is read into the three arrays, and they are stored.
  pub read_saved : (ys : List Node) (t t' : Apart) (a : Result Function Refused) → ApartOf xs t → AreWhole t' → ReadsOn text (length xs) t t' a → TogetherIn t' xs ys → RowReads text xs ys a
  read_saved ys t t' a p w on s = go (leb (length xs) 4096) refl
    where
      go : (b : Bool) → leb (length xs) 4096 ≡ b → RowReads text xs ys a
      go true e =
          let m = leb-true (length xs) 4096 e in
          let before = apart_front xs t p m in
          let after = together_front xs ys t' w s m in
          read_ran before.level before.low before.high after.level after.low after.high (on.within m)
      go false e =
          let m = leb-false (length xs) 4096 e in
          let b = on.beyond m in
          let same : ys ≡ xs = together-same xs ys t p (subst (λ (u : Apart). TogetherIn u xs ys) b.0 s) in
          subst⁻¹ (λ (us : List Node). RowReads text xs us a) same (subst⁻¹ (λ (r : Result Function Refused). RowReads text xs xs r) b.1 (over-reads m))

-- The text was read into the first parts of three arrays, which have come back.
lent : (text : List ℕ) (size : ℕ) (t t' : Apart) {v l h : List ℕ} {a : Result Function Refused} → size ≤ 4096 → Starts size t' v l h
    → ReadsFunction text (take size t.level) (take size t.low) (take size t.high) v l h a → ReadsOn text size t t' a
lent text size t t' {a = a} m s o = record {
  within = λ _. subst⁻¹ (λ (u : Numbers). ReadsFunction text (take size t.level) (take size t.low) (take size t.high) u.0 u.1 u.2 a) (starts_along s) o;
  beyond = λ k. let z : ⊥ = omega arith in absurd z;
}

-- A row of at most 4,096 records: its numbers are lent, come back, and are stored.
pub read_back : (text : List ℕ) (xs ys : List Node) (t t' : Apart) {v l h : List ℕ} {a : Result Function Refused} → length xs ≤ 4096 → ApartOf xs t → CameBack (length xs) t v l h t'
    → ReadsFunction text (take (length xs) t.level) (take (length xs) t.low) (take (length xs) t.high) v l h a → TogetherIn t' xs ys → RowReads text xs ys a
read_back text xs ys t t' {a = a} m p b o s =
    let w = apart-whole xs t p in
    read_saved text xs ys t t' a p (back-whole m w b) (lent text (length xs) t t' m (back-starts m w b) o) s
