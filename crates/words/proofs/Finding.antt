-- The search for the smallest point of a table that a cube covers, step by step as the code goes: a single word, one word
-- against each word, and the halves by the sign of the first column.
use mathlib.Core.Path.{◌≡◌, refl, sym, ap, ap₂, ◌∙◌, subst⁻¹}
use mathlib.Core.Bool.{Bool, true, false}
use mathlib.Core.List.{List}
use mathlib.Core.Logic.{◌⊎◌, inl, inr}
use Prim.Native.Nat.{ℕ, suc, ◌-◌, ◌*◌, ◌/◌, ◌<◌, ◌≤◌}
use native.Mathlib.Nat.{pow-suc}
use native.Mathlib.Omega.{arith}
use lib.Bits.{bit_and}
use lib.ListN.{length, get_or, take, drop, replicate}
use Rattle.rule.specs.Func.{Fn, constant, joined, both}
use Rattle.rule.specs.Point.{odd, smallest}
use Rattle.words.specs.Word.{words, size, cube_of, found_number, plain, wordwise}
use Rattle.words.specs.Contract.{SizedWord, FirstBit, FirstUnder, FirstIn}
use Rattle.words.proofs.Num.{num-both}
use Rattle.words.proofs.Tables.{words-few, words-both}
use Rattle.words.proofs.Least.{none_found, found_in_low, found_in_high, both_false}
use Rattle.words.proofs.Cubes.{cube_one, cube_zero, cube-dash, leaf-few, leaf-next, words-plain}
use Rattle.words.proofs.Halving.{by_suc}
use Rattle.words.proofs.Halves.{middle, low-length, last-length, low-words, last_words}

-- Up to six columns: the word of the table against the cube's.
pub one_word : (m o z w : ℕ) (xs : List ℕ) (r : ℕ) → SizedWord m o z w xs → m ≤ 6 → FirstBit m (bit_and w (get_or xs 0 0)) r → FirstIn m o z xs r
one_word m o z w xs r s h b =
    record {
      bound = b.bound;
      found = λ f e.
          b.found (both m (cube_of m o z) f)
          (ap₂ bit_and (s.word ∙ leaf-few m o z h) (ap (λ l. get_or l 0 0) (e ∙ words-few m f h)) ∙
          sym (num-both m (cube_of m o z) f));
    }

-- Dashes before the last six columns: the cube's one word against each word of the table.
pub all-dashes-found : (m o z w : ℕ) (xs : List ℕ) (t : Bool) (r : ℕ) → SizedWord m o z w xs → t ≡ plain m o z → t ≡ true → FirstUnder m w xs r → FirstIn m o z xs r
all-dashes-found m o z w xs t r s d y u =
    record {
      bound = u.bound;
      found = λ f p.
          u.found (both m (cube_of m o z) f)
          (words-both m (cube_of m o z) f ∙
          ap₂ (wordwise bit_and) (words-plain m o z (sym d ∙ y) ∙ ap (replicate (size m)) (sym s.word)) (sym p));
    }

-- The halves of a table of more than six columns, as the code cuts it.
abbrev low_of : List ℕ → List ℕ
low_of xs = take (length xs / 2) xs

abbrev high_of : List ℕ → List ℕ
high_of xs = drop (length xs / 2) xs

module _ (k o z w : ℕ) (xs : List ℕ) (more : 6 ≤ k) (s : SizedWord (suc k) o z w xs) where
  half : length xs / 2 ≡ size k
  half = middle k (length xs) more s.long

  low-sized : SizedWord k (o / 2) (z / 2) w (low_of xs)
  low-sized =
      record {
        columns = omega (arith, s.columns);
        long = low-length k (length xs / 2) xs more half s.long;
        word = s.word ∙ leaf-next k o z more;
      }

  high-sized : SizedWord k (o / 2) (z / 2) w (high_of xs)
  high-sized =
      record {
        columns = omega (arith, s.columns);
        long = last-length k (length xs / 2) xs more half s.long;
        word = s.word ∙ leaf-next k o z more;
      }

  -- What the whole has, by what its halves have under the halves of the cube.
  module _ (p q : Fn k) (c : cube_of (suc k) o z ≡ (p, q)) (f : Fn (suc k)) where
    by_high : found_number (smallest k (both k p f.0)) ≡ 0
        → found_number (smallest (suc k) (both (suc k) (cube_of (suc k) o z) f)) ≡ 2 * found_number (smallest k (both k q f.1))
    unfolding both joined
    by_high e =
        ap (λ g. found_number (smallest (suc k) (both (suc k) g f))) c ∙ found_in_high k (both k p f.0, both k q f.1) e

    by_low : (found_number (smallest k (both k p f.0)) ≡ 0 → ⊥)
        → found_number (smallest (suc k) (both (suc k) (cube_of (suc k) o z) f)) ≡ 2 * found_number (smallest k (both k p f.0)) - 1
    unfolding both joined
    by_low h =
        ap (λ g. found_number (smallest (suc k) (both (suc k) g f))) c ∙ found_in_low k (both k p f.0, both k q f.1) h

  -- A half that the cube does not reach has nothing.
  unreached : (f : Fn k) → found_number (smallest k (both k (constant k false) f)) ≡ 0
  unreached f = ap (λ g. found_number (smallest k g)) (both_false k f) ∙ none_found k

  found_one : (r : ℕ) → odd o ≡ true → FirstIn k (o / 2) (z / 2) (high_of xs) r → FirstIn (suc k) o z xs (2 * r)
  found_one r a b =
      record {
        bound = omega (arith, b.bound, pow-suc 2 k);
        found = λ f e.
            ap (λ n. 2 * n) (b.found f.1 (last_words k (length xs / 2) xs more half s.long f e)) ∙
            sym (by_high (constant k false) (cube_of k (o / 2) (z / 2)) (cube_one k o z a) f (unreached f.0));
      }

  -- The half for 0, where the first column is not a 1: its cube is that of the later columns, whatever the other half's is.
  low-cube : odd o ≡ false → (q : Fn k) × (cube_of (suc k) o z ≡ (cube_of k (o / 2) (z / 2), q))
  low-cube a = go (odd z) refl
    where
      go : (b : Bool) → odd z ≡ b → (q : Fn k) × (cube_of (suc k) o z ≡ (cube_of k (o / 2) (z / 2), q))
      go true e = (constant k false, cube_zero k o z a e)
      go false e = (cube_of k (o / 2) (z / 2), cube-dash k o z a e)

  module _ (l : ℕ) (a : odd o ≡ false) (b : FirstIn k (o / 2) (z / 2) (low_of xs) l) where
    low-found : (f : Fn (suc k)) → xs ≡ words (suc k) f → l ≡ found_number (smallest k (both k (cube_of k (o / 2) (z / 2)) f.0))
    low-found f e = b.found f.0 (low-words k (length xs / 2) xs more half s.long f e)

    found-low : (l ≡ 0 → ⊥) → FirstIn (suc k) o z xs (2 * l - 1)
    found-low n =
        let d = low-cube a in
        record {
          bound = omega (arith, b.bound, pow-suc 2 k);
          found = λ f e.
              ap (λ n. 2 * n - 1) (low-found f e) ∙
              sym (by_low (cube_of k (o / 2) (z / 2)) d.0 d.1 f (λ x. n (low-found f e ∙ x)));
        }

    found_zero : l ≡ 0 → odd z ≡ true → FirstIn (suc k) o z xs 0
    found_zero n y =
        record {
          bound = omega arith;
          found = λ f e.
              sym (by_high (cube_of k (o / 2) (z / 2)) (constant k false) (cube_zero k o z a y) f (sym (low-found f e) ∙ n) ∙
              ap (λ n. 2 * n) (unreached f.1));
        }

    found-dash : l ≡ 0 → odd z ≡ false → (r : ℕ) → FirstIn k (o / 2) (z / 2) (high_of xs) r → FirstIn (suc k) o z xs (2 * r)
    found-dash n y r d =
        record {
          bound = omega (arith, d.bound, pow-suc 2 k);
          found = λ f e.
              ap (λ n. 2 * n) (d.found f.1 (last_words k (length xs / 2) xs more half s.long f e)) ∙
              sym (by_high (cube_of k (o / 2) (z / 2)) (cube_of k (o / 2) (z / 2)) (cube-dash k o z a y) f (sym (low-found f e) ∙ n));
        }

-- The same of m columns and the m - 1 after the first, as the code has them, with the halves of the slice and of the cube that
-- it has made.
module _ (m o z w : ℕ) (xs : List ℕ) (more : 6 < m) (s : SizedWord m o z w xs) {o' z' : ℕ} (ones : o' ≡ o / 2) (zeros : z' ≡ z / 2) {lo hi : List ℕ} (front : lo ≡ low_of xs) (back : hi ≡ high_of xs) where
  from_halves : (P : ℕ → ℕ → ℕ → ℕ → List ℕ → List ℕ → Type 0)
      → ((k : ℕ) → 6 ≤ k → SizedWord (suc k) o z w xs → P (suc k) k (o / 2) (z / 2) (low_of xs) (high_of xs))
      → P m (m - 1) o' z' lo hi
  from_halves P h =
      subst⁻¹ (λ a. P m (m - 1) a z' lo hi) ones
      (subst⁻¹ (λ b. P m (m - 1) (o / 2) b lo hi) zeros
      (subst⁻¹ (λ l. P m (m - 1) (o / 2) (z / 2) l hi) front
      (subst⁻¹ (P m (m - 1) (o / 2) (z / 2) (low_of xs)) back
      (by_suc (λ m k. 6 < m → SizedWord m o z w xs → P m k (o / 2) (z / 2) (low_of xs) (high_of xs))
      (λ k l t. let a : 6 ≤ k = omega arith in h k a t) m (omega arith) more s))))

  pub search_low : SizedWord (m - 1) o' z' w lo
  search_low = from_halves (λ m k a b lo hi. SizedWord k a b w lo) (λ k h t. low-sized k o z w xs h t)

  pub search_high : SizedWord (m - 1) o' z' w hi
  search_high = from_halves (λ m k a b lo hi. SizedWord k a b w hi) (λ k h t. high-sized k o z w xs h t)

  pub search_one : (r : ℕ) → odd o ≡ true → FirstIn (m - 1) o' z' hi r → FirstIn m o z xs (2 * r)
  search_one r c =
      from_halves (λ m k a b lo hi. FirstIn k a b hi r → FirstIn m o z xs (2 * r))
      (λ k h t. found_one k o z w xs h t r c)

  pub search_found : (l : ℕ) → odd o ≡ false → (l ≡ 0 → ⊥) → FirstIn (m - 1) o' z' lo l → FirstIn m o z xs (2 * l - 1)
  search_found l c n =
      from_halves (λ m k a b lo hi. FirstIn k a b lo l → FirstIn m o z xs (2 * l - 1))
      (λ k h t d. found-low k o z w xs h t l c d n)

  pub search_zero : (l : ℕ) → odd o ≡ false → l ≡ 0 → odd z ≡ true → FirstIn (m - 1) o' z' lo l → FirstIn m o z xs 0
  search_zero l c n e =
      from_halves (λ m k a b lo hi. FirstIn k a b lo l → FirstIn m o z xs 0)
      (λ k h t d. found_zero k o z w xs h t l c d n e)

  pub search_dash : (l r : ℕ) → odd o ≡ false → l ≡ 0 → odd z ≡ false → FirstIn (m - 1) o' z' lo l → FirstIn (m - 1) o' z' hi r
      → FirstIn m o z xs (2 * r)
  search_dash l r c n e =
      from_halves (λ m k a b lo hi. FirstIn k a b lo l → FirstIn k a b hi r → FirstIn m o z xs (2 * r))
      (λ k h t d. found-dash k o z w xs h t l c d n e r)

  -- The half for 1 decides: the first column must be 1, or it is a dash and the half for 0 has nothing.
  abbrev pub HighDecides : Type 0
  HighDecides = (odd o ≡ true) ⊎ ((odd o ≡ false) × (odd z ≡ false) × FirstIn (m - 1) o' z' lo 0)

  pub search_high-part : HighDecides → (r : ℕ) → FirstIn (m - 1) o' z' hi r → FirstIn m o z xs (2 * r)
  search_high-part (inl c) r = search_one r c
  search_high-part (inr (c, e, d)) r = search_dash 0 r c refl e d
