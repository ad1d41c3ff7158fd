-- The smallest point of a table by its first word that is not 0: the words before it have no point, and its place tells the
-- columns before the last six.
use mathlib.Core.Path.{◌≡◌, refl, sym, ap, ap₂, ◌∙◌, subst, subst⁻¹}
use mathlib.Core.Bool.{Bool, true, false, cond}
use mathlib.Core.List.{List}
use mathlib.Core.Logic.{◌⊎◌, inl, inr}
use Rattle.std.specs.Prelude.{Option, Some, None, unwrap_or}
use Prim.Native.Nat.{ℕ, zero, suc, ◌+◌, ◌-◌, ◌*◌, ◌/◌, ◌%◌, ◌^◌, ◌<◌, ◌≤◌}
use native.Mathlib.Nat.{pow-suc}
use native.Mathlib.Omega.{arith}
use lib.Bits.{bit_and, and_comm}
use lib.Dec.{ltb}
use lib.ListN.{length, get_or, replicate, length-replicate, get_or-replicate, get_or-append}
use lib.Pow.{pow-add, pow_mono}
use lib.Seq.{get_or-append-add, ext_get_or}
use borrow.Author.Tests.{lt-ltb, le-ltb, ltb-true, ltb-false}
use Rattle.rule.specs.Func.{Fn, constant}
use Rattle.rule.specs.Point.{smallest}
use Rattle.words.specs.Word.{num, words, size, found_number, placed, wordwise}
use Rattle.words.specs.Contract.{SizedMany, FirstBit, FirstMet, FoundInWord, FirstUnder}
use Rattle.words.proofs.Tables.{words-few, words-halves, words_false, words_tell, size_double, length-words, by_halves}
use Rattle.words.proofs.Least.{none_found, found_in_low, found_in_high}
use Rattle.words.proofs.Loops.{get_d_wordwise}

-- A place in the first half of a table, or in the second.
which_half : (i n : ℕ) → (i < n) ⊎ (n ≤ i)
which_half i n = go (ltb i n) refl
  where
    go : (b : Bool) → ltb i n ≡ b → (i < n) ⊎ (n ≤ i)
    go true e = inl (ltb-true i n e)
    go false e = inr (ltb-false i n e)

placed-low : (d i r : ℕ) → i < 2 ^ d → placed (suc d) i r ≡ 2 * placed d i r - 1
unfolding placed
placed-low d i r h = ap (λ b. cond b (2 * placed d i r - 1) (2 * placed d (i - 2 ^ d) r)) (lt-ltb i (2 ^ d) h)

placed-high : (d i r : ℕ) → 2 ^ d ≤ i → placed (suc d) i r ≡ 2 * placed d (i - 2 ^ d) r
unfolding placed
placed-high d i r h = ap (λ b. cond b (2 * placed d i r - 1) (2 * placed d (i - 2 ^ d) r)) (le-ltb i (2 ^ d) h)

-- The digits of a place from the lowest on, as the code takes them.
pub lowest_digit : (d i r : ℕ) → i < 2 ^ suc d → 0 < r → placed (suc d) i r ≡ placed d (i / 2) (2 * r - 1 + i % 2)
unfolding placed
lowest_digit zero i r h p = go (which_half i 1)
  where
    go : (i < 1) ⊎ (1 ≤ i) → placed 1 i r ≡ 2 * r - 1 + i % 2
    go (inl l) = placed-low 0 i r l ∙ omega arith
    go (inr l) = placed-high 0 i r l ∙ omega arith
lowest_digit (suc d) i r h p = go (which_half i (2 ^ suc d)) (lowest_digit d i r) (lowest_digit d (i - 2 ^ suc d) r)
  where
    go : (i < 2 ^ suc d) ⊎ (2 ^ suc d ≤ i)
        → (i < 2 ^ suc d → 0 < r → placed (suc d) i r ≡ placed d (i / 2) (2 * r - 1 + i % 2))
        → (i - 2 ^ suc d < 2 ^ suc d → 0 < r → placed (suc d) (i - 2 ^ suc d) r ≡ placed d ((i - 2 ^ suc d) / 2) (2 * r - 1 + (i - 2 ^ suc d) % 2))
        → placed (suc (suc d)) i r ≡ placed (suc d) (i / 2) (2 * r - 1 + i % 2)
    go (inl l) low high =
        let q : i / 2 < 2 ^ d = omega (arith, pow-suc 2 d) in
        placed-low (suc d) i r l ∙ ap (λ n. 2 * n - 1) (low l p) ∙
        sym (placed-low d (i / 2) (2 * r - 1 + i % 2) q)
    go (inr l) low high =
        let q : 2 ^ d ≤ i / 2 = omega (arith, pow-suc 2 d) in
        let b : i - 2 ^ suc d < 2 ^ suc d = omega (arith, pow-suc 2 (suc d)) in
        let e : (i - 2 ^ suc d) / 2 ≡ i / 2 - 2 ^ d = omega (arith, pow-suc 2 d) in
        let g : (i - 2 ^ suc d) % 2 ≡ i % 2 = omega (arith, pow-suc 2 d) in
        placed-high (suc d) i r l ∙ ap (λ n. 2 * n) (high b p ∙ ap₂ (λ x y. placed d x (2 * r - 1 + y)) e g) ∙
        sym (placed-high d (i / 2) (2 * r - 1 + i % 2) q)

-- A point found in a word is found in the table, and its number is no greater than that of the points.
placed-some : (d i r : ℕ) → 0 < r → 0 < placed d i r
unfolding placed
placed-some zero i r h = h
placed-some (suc d) i r h = go (which_half i (2 ^ d)) (placed-some d i r h) (placed-some d (i - 2 ^ d) r h)
  where
    go : (i < 2 ^ d) ⊎ (2 ^ d ≤ i) → 0 < placed d i r → 0 < placed d (i - 2 ^ d) r → 0 < placed (suc d) i r
    go (inl l) low high = omega (arith, placed-low d i r l)
    go (inr l) low high = omega (arith, placed-high d i r l)

placed-most : (d i r : ℕ) → r ≤ 64 → placed d i r ≤ 64 * 2 ^ d
unfolding placed
placed-most zero i r h = h
placed-most (suc d) i r h = go (which_half i (2 ^ d)) (placed-most d i r h) (placed-most d (i - 2 ^ d) r h)
  where
    go : (i < 2 ^ d) ⊎ (2 ^ d ≤ i) → placed d i r ≤ 64 * 2 ^ d → placed d (i - 2 ^ d) r ≤ 64 * 2 ^ d → placed (suc d) i r ≤ 64 * 2 ^ suc d
    go (inl l) low high = omega (arith, placed-low d i r l, pow-suc 2 d)
    go (inr l) low high = omega (arith, placed-high d i r l, pow-suc 2 d)

-- A loop over the digits of a place, with k columns left: the digits left lead from r to the whole number.
pub record Digits (m i₀ r₀ k i r : ℕ) : Type 0 where
  pub more : 6 ≤ k
  pub columns : k ≤ 16
  pub place : i < 2 ^ (k - 6)
  pub some : 0 < r
  pub most : r ≤ 2 ^ (22 - k)
  pub whole : placed (k - 6) i r ≡ placed (m - 6) i₀ r₀

pub digits-all : {m i r : ℕ} → FoundInWord m i r → Digits m i r m i r
unfolding size
digits-all {m} f =
    let l : 6 ≤ 22 - m = omega (arith, f.columns) in
    let p : 2 ^ 6 ≤ 2 ^ (22 - m) = pow_mono l in
    record {
      more = f.more;
      columns = f.columns;
      place = f.place;
      some = f.some;
      most = omega (arith, f.most);
      whole = refl;
    }

module _ {m i₀ r₀ k i r : ℕ} (s : Digits m i₀ r₀ k i r) where
  pub digits_fit : 6 < k → r ≤ 32768
  digits_fit h =
      let l : 22 - k ≤ 15 = omega arith in
      let p : 2 ^ (22 - k) ≤ 2 ^ 15 = pow_mono l in
      omega (arith, s.most)

  pub digits-next : 6 < k → Digits m i₀ r₀ (k - 1) (i / 2) (2 * r - 1 + i % 2)
  digits-next h =
      let e : k - 6 ≡ suc (k - 1 - 6) = omega arith in
      let d : 22 - (k - 1) ≡ suc (22 - k) = omega (arith, s.columns) in
      let a : 2 ^ (k - 6) ≡ 2 ^ suc (k - 1 - 6) = ap (λ n. 2 ^ n) e in
      let b : 2 ^ (22 - (k - 1)) ≡ 2 ^ suc (22 - k) = ap (λ n. 2 ^ n) d in
      let l : i < 2 ^ suc (k - 1 - 6) = omega (arith, s.place) in
      record {
        more = omega arith;
        columns = omega (arith, s.columns);
        place = omega (arith, pow-suc 2 (k - 1 - 6));
        some = omega (arith, s.some);
        most = omega (arith, s.most, s.some, pow-suc 2 (22 - k));
        whole = sym (lowest_digit (k - 1 - 6) i r l s.some) ∙ ap (λ n. placed n i r) (sym e) ∙ s.whole;
      }

  pub digits_end : k ≤ 6 → r ≡ placed (m - 6) i₀ r₀
  unfolding placed
  digits_end h = let e : k - 6 ≡ 0 = omega arith in sym (ap (λ n. placed n i r) e) ∙ s.whole

-- A turn of the loop, for the point's number.
pub digits-turn : {m i₀ r₀ k i k' : ℕ} (p : ℕ) → Digits m i₀ r₀ k i (p + 1) → k ≡ k' + 1 → 6 < k → Digits m i₀ r₀ k' (i / 2) (2 * p + i % 2 + 1)
digits-turn {m} {i₀} {r₀} {k} {i} {k'} p s e h =
    subst (λ n. Digits m i₀ r₀ n (i / 2) (2 * p + i % 2 + 1)) (omega arith)
    (subst (Digits m i₀ r₀ (k - 1) (i / 2)) (omega arith) (digits-next s h))

-- A table of words that are all 0 has no point.
nothing_there : (m : ℕ) (f : Fn m) → ((k : ℕ) → k < size m → get_or (words m f) k 0 ≡ 0) → found_number (smallest m f) ≡ 0
nothing_there m f h =
    let z : words m f ≡ replicate (size m) 0 =
    ext_get_or 0 (words m f) (replicate (size m) 0) (length-words m f ∙ sym (length-replicate (size m) 0))
    (λ k b.
    let l : k < size m = omega (arith, length-words m f) in
    h k l ∙ sym (get_or-replicate (size m) k 0 0 l)) in
    ap (λ g. found_number (smallest m g)) (words_tell m f (constant m false) (z ∙ sym (words_false m))) ∙ none_found m

-- The words of the halves, by their places in the table.
module _ (m : ℕ) (f : Fn (suc m)) (more : 6 ≤ m) where
  in_low : (k : ℕ) → k < size m → get_or (words (suc m) f) k 0 ≡ get_or (words m f.0) k 0
  in_low k h =
      ap (λ l. get_or l k 0) (words-halves m f more) ∙
      get_or-append (words m f.0) (words m f.1) 0 k (omega (arith, length-words m f.0))

  in_high : (k : ℕ) → get_or (words (suc m) f) (size m + k) 0 ≡ get_or (words m f.1) k 0
  in_high k =
      ap (λ n. get_or (words (suc m) f) (n + k) 0) (sym (length-words m f.0)) ∙
      ap (λ l. get_or l (length (words m f.0) + k) 0) (words-halves m f more) ∙
      get_or-append-add (words m f.0) (words m f.1) k 0

-- The first word that is not 0, at place i, has its smallest point with number r - 1.
abbrev pub FirstWord : (m : ℕ) → Fn m → Type 0
FirstWord m f =
    (i r : ℕ) → 6 ≤ m → i < size m → 0 < r → ((k : ℕ) → k < i → get_or (words m f) k 0 ≡ 0)
    → ((g : Fn 6) → get_or (words m f) i 0 ≡ num 6 g → r ≡ found_number (smallest 6 g)) → found_number (smallest m f) ≡ placed (m - 6) i r

one_word : (f : Fn 6) → FirstWord 6 f
unfolding placed size
one_word f i r more h s before here =
    let e : i ≡ 0 = omega arith in
    sym (here f (ap₂ (λ l k. get_or l k 0) (words-few 6 f (omega arith)) e))

halves : (m : ℕ) (f : Fn (suc m)) → 6 ≤ m → FirstWord m f.0 → FirstWord m f.1 → FirstWord (suc m) f
unfolding size
halves m f more low high i r _ h s before here = go (which_half i (size m))
  where
    next : (n : ℕ) → n ≡ placed (suc (m - 6)) i r → n ≡ placed (suc m - 6) i r
    next n e = let q : suc (m - 6) ≡ suc m - 6 = omega arith in e ∙ ap (λ d. placed d i r) q

    go : (i < size m) ⊎ (size m ≤ i) → found_number (smallest (suc m) f) ≡ placed (suc m - 6) i r
    go (inl l) =
        let e : found_number (smallest m f.0) ≡ placed (m - 6) i r =
        low i r more l s (λ k b. let c : k < size m = omega arith in sym (in_low m f more k c) ∙ before k b)
        (λ g p. here g (in_low m f more i l ∙ p)) in
        next (found_number (smallest (suc m) f))
        (found_in_low m f (λ z. let y : 0 < placed (m - 6) i r = placed-some (m - 6) i r s in let x : ⊥ = omega arith in absurd x) ∙
        ap (λ n. 2 * n - 1) e ∙ sym (placed-low (m - 6) i r l))
    go (inr l) =
        let c : i ≡ size m + (i - size m) = omega arith in
        let b : i - size m < size m = omega (arith, size_double m more) in
        let e : found_number (smallest m f.1) ≡ placed (m - 6) (i - size m) r =
        high (i - size m) r more b s
        (λ k a. let d : size m + k < i = omega arith in sym (in_high m f more k) ∙ before (size m + k) d)
        (λ g p. here g (ap (λ k. get_or (words (suc m) f) k 0) c ∙ in_high m f more (i - size m) ∙ p)) in
        let z : found_number (smallest m f.0) ≡ 0 =
        nothing_there m f.0 (λ k a. let d : k < i = omega arith in sym (in_low m f more k a) ∙ before k d) in
        next (found_number (smallest (suc m) f))
        (found_in_high m f z ∙ ap (λ n. 2 * n) e ∙ sym (placed-high (m - 6) i r l))

pub first_word : (m : ℕ) (f : Fn m) → FirstWord m f
first_word =
    by_halves FirstWord
    (λ m f h i r more. let e : m ≡ 6 = omega arith in subst⁻¹ (λ n. (g : Fn n) → FirstWord n g) e one_word f i r more)
    halves

-- One word against each word of a table of six columns or more.
module _ (m w : ℕ) (xs : List ℕ) (s : SizedMany m xs) where
  against : (f : Fn m) → words m f ≡ wordwise bit_and (replicate (size m) w) xs → (k : ℕ) → k < size m → get_or (words m f) k 0 ≡ bit_and w (get_or xs k 0)
  against f e k h =
      let l : length (replicate (size m) w) ≡ length xs = length-replicate (size m) w ∙ sym s.long in
      let b : k < length (replicate (size m) w) = omega (arith, length-replicate (size m) w) in
      ap (λ l. get_or l k 0) e ∙ get_d_wordwise bit_and (replicate (size m) w) xs k l b ∙
      ap (λ x. bit_and x (get_or xs k 0)) (get_or-replicate (size m) k w 0 h)

  passed : {r : Option ℕ} → FirstMet w xs r → (f : Fn m) → words m f ≡ wordwise bit_and (replicate (size m) w) xs
      → (k : ℕ) → k < size m → k < unwrap_or r (length xs) → get_or (words m f) k 0 ≡ 0
  passed t f e k l h = against f e k l ∙ and_comm w (get_or xs k 0) ∙ t.before k h

  pub none-under : FirstMet w xs None → FirstUnder m w xs 0
  none-under t =
      record {
        bound = omega arith;
        found = λ f e.
            sym (nothing_there m f (λ k h. let l : k < length xs = omega (arith, s.long) in passed t f e k h l));
      }

  pub place-fits : length xs ≤ 1024
  unfolding size
  place-fits =
      let l : m - 6 ≤ 10 = omega (arith, s.columns) in
      let p : 2 ^ (m - 6) ≤ 2 ^ 10 = pow_mono l in
      omega (arith, s.long)

  module _ {i : ℕ} (t : FirstMet w xs (Some i)) where
    -- The word that is met has a point.
    pub met_not_empty : FirstBit 6 (bit_and w (get_or xs i 0)) 0 → ⊥
    met_not_empty b =
        let l : 0 < 0 = b.some (λ z. t.here (and_comm (get_or xs i 0) w ∙ z)) in
        let z : ⊥ = omega arith in
        z

    module _ (r : ℕ) (b : FirstBit 6 (bit_and w (get_or xs i 0)) r) where
      pub found_in_word : FoundInWord m i r
      found_in_word =
          record {
            more = s.more;
            columns = s.columns;
            place = let l : i < length xs = t.place in omega (arith, s.long);
            some = b.some (λ z. t.here (and_comm (get_or xs i 0) w ∙ z));
            most = b.bound;
          }

      pub first_under : {n : ℕ} → n ≡ placed (m - 6) i r → FirstUnder m w xs n
      first_under {n} e =
          let g : FoundInWord m i r = found_in_word in
          let c : 6 + (m - 6) ≡ m = omega (arith, s.more) in
          record {
            bound = omega (arith, placed-most (m - 6) i r g.most, pow-add 2 6 (m - 6), ap (λ n. 2 ^ n) c);
            found = λ f y.
                e ∙
                sym (first_word m f i r s.more g.place g.some
                (λ k h. let l : k < size m = omega (arith, g.place) in passed t f y k l h)
                (λ k x. b.found k (sym (against f y i g.place) ∙ x)));
          }
