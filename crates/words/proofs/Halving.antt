-- Laws of words as the code shifts and masks them: the number of points, the first number beyond them, the halves of a word.
use mathlib.Core.Path.{◌≡◌, refl, sym, ap, ap₂, ◌∙◌, subst}
use mathlib.Core.Bool.{Bool, true, false}
use Prim.Native.Nat.{ℕ, zero, suc, ◌+◌, ◌-◌, ◌*◌, ◌/◌, ◌%◌, ◌^◌, ◌<◌, ◌≤◌}
use native.Mathlib.Nat.{pow-suc, add-zero, div-add-mod'}
use native.Mathlib.Omega.{arith}
use lib.Arith.{digits_lt}
use lib.Bits.{bit_and, bit_or, and_mask, or_shifted}
use lib.Dec.{eqb}
use lib.Pow.{pow_mono, shl_exact}
use borrow.Author.Tests.{eqb-true, eqb-false}
use Rattle.rule.specs.Func.{Fn, constant}
use Rattle.rule.specs.Point.{bit, odd, point_number, smallest}
use Rattle.words.specs.Word.{num, cube_of, found_number, leaf}
use Rattle.words.specs.Contract.{ConstantWord, Packed, FirstBit}
use Rattle.words.proofs.Num.{num_below, num-low, num-high, num_false, num_true, num_zero, square}
use Rattle.words.proofs.Tables.{words-constant}
use Rattle.words.proofs.Least.{none_found, found_in_low, found_in_high}
use Rattle.words.proofs.Cubes.{cube_one, cube_zero, cube-dash, leaf-few, leaf-next}

-- A law of m columns and the m - 1 after the first.
pub by_suc : (P : ℕ → ℕ → Type 0) → ((k : ℕ) → P (suc k) k) → (m : ℕ) → 0 < m → P m (m - 1)
by_suc P h zero l = let z : ⊥ = omega arith in absurd z
by_suc P h (suc k) l = let e : k ≡ suc k - 1 = omega arith in subst (P (suc k)) e (h k)

-- The points of fewer than six columns are at most 32, and the first number beyond them is a word.
pub points-most : (m : ℕ) → m < 6 → 2 ^ m ≤ 32
points-most m h = let l : m ≤ 5 = omega arith in pow_mono l

pub points_shifted : (m : ℕ) → m < 6 → 1 * 2 ^ m % 65536 ≡ 2 ^ m
points_shifted m h = omega (arith, points-most m h)

pub side_shifted : (m n : ℕ) → m < 6 → n ≡ 2 ^ m → 1 * 2 ^ n % 2 ^ 64 ≡ 2 ^ (2 ^ m)
side_shifted m n h e =
    let l : n ≤ 32 = omega (arith, points-most m h) in
    let p : 2 ^ n ≤ 2 ^ 32 = pow_mono l in
    let q : 1 * 2 ^ n % 2 ^ 64 ≡ 2 ^ n = omega arith in
    q ∙ ap (λ k. 2 ^ k) e

-- The word of a constant.
pub constant-none : (m : ℕ) → ConstantWord m false 0
constant-none m =
    record {
      few = λ h. sym (num_false m);
      table = words-constant m false 0 (λ h. sym (num_false m)) (λ h. sym (num_false 6));
    }

pub constant-few : (m s : ℕ) → m < 6 → s ≡ 2 ^ (2 ^ m) → ConstantWord m true (s - 1)
constant-few m s h e =
    let w : s - 1 ≡ num m (constant m true) = omega (arith, num_true m) in
    record { few = λ l. w; table = words-constant m true (s - 1) (λ l. w) (λ l. let z : ⊥ = omega arith in absurd z) }

pub constant_many : (m : ℕ) → 6 ≤ m → ConstantWord m true 18446744073709551615
constant_many m h =
    let w : 18446744073709551615 ≡ num 6 (constant 6 true) = omega (arith, num_true 6) in
    let v : m ≤ 6 → 18446744073709551615 ≡ num m (constant m true) =
    λ l. let e : m ≡ 6 = omega arith in w ∙ ap (λ n. num n (constant n true)) (sym e) in
    record { few = v; table = words-constant m true 18446744073709551615 v (λ l. w) }

-- A word shifted above another.
pub packed : (m low high n : ℕ) → m < 6 → n ≡ 2 ^ m → Packed m low high (bit_or (high * 2 ^ n % 2 ^ 64) low)
unfolding num
packed m low high n h e = record { word = word }
  where
    word : (f g : Fn m) → low ≡ num m f → high ≡ num m g → bit_or (high * 2 ^ n % 2 ^ 64) low ≡ num (suc m) (f, g)
    word f g p q =
        let a : high < 2 ^ n = subst (λ k. high < 2 ^ k) (sym e) (subst (λ x. x < 2 ^ (2 ^ m)) (sym q) (num_below m g)) in
        let b : low < 2 ^ n = subst (λ k. low < 2 ^ k) (sym e) (subst (λ x. x < 2 ^ (2 ^ m)) (sym p) (num_below m f)) in
        let l : n + n ≤ 64 = omega (arith, points-most m h) in
        ap (λ x. bit_or x low) (shl_exact n n 64 a l) ∙ or_shifted high n low b ∙
        ap₂ ◌+◌ (ap₂ (λ x k. x * 2 ^ k) q e) p

-- The word of a cube by the sign of its first column.
module _ (m o z r s : ℕ) (h : m < 6) (e : r ≡ leaf m (o / 2) (z / 2)) (side : s ≡ 2 ^ (2 ^ m)) where
  rest-word : r ≡ num m (cube_of m (o / 2) (z / 2))
  rest-word = let l : m ≤ 6 = omega arith in e ∙ leaf-few m (o / 2) (z / 2) l

  by_halves : (f g : Fn m) → cube_of (suc m) o z ≡ (f, g) → leaf (suc m) o z ≡ num m g * s + num m f
  unfolding num
  by_halves f g c =
      leaf-few (suc m) o z h ∙ ap (num (suc m)) c ∙ ap (λ k. num m g * k + num m f) (sym side)

  pub word_one : odd o ≡ true → r * s ≡ leaf (suc m) o z
  word_one p =
      sym (by_halves (constant m false) (cube_of m (o / 2) (z / 2)) (cube_one m o z p) ∙
      ap (λ k. num m (cube_of m (o / 2) (z / 2)) * s + k) (num_false m) ∙
      ap (λ k. k * s + 0) (sym rest-word) ∙ add-zero (r * s))

  pub word_zero : odd o ≡ false → odd z ≡ true → r ≡ leaf (suc m) o z
  word_zero p q =
      sym (by_halves (cube_of m (o / 2) (z / 2)) (constant m false) (cube_zero m o z p q) ∙
      ap (λ k. k * s + num m (cube_of m (o / 2) (z / 2))) (num_false m) ∙
      ap (λ k. 0 * s + k) (sym rest-word) ∙ omega arith)

  pub word-dash : odd o ≡ false → odd z ≡ false → r * s + r ≡ leaf (suc m) o z
  word-dash p q =
      sym (by_halves (cube_of m (o / 2) (z / 2)) (cube_of m (o / 2) (z / 2)) (cube-dash m o z p q) ∙
      ap (λ k. k * s + k) (sym rest-word))

  -- Neither product nor sum is beyond a word.
  pub word_room : r * s + r < 2 ^ 64
  word_room =
      let a : r < 2 ^ (2 ^ m) = subst (λ x. x < 2 ^ (2 ^ m)) (sym rest-word) (num_below m (cube_of m (o / 2) (z / 2))) in
      let b : r * 2 ^ (2 ^ m) + r < 2 ^ (2 ^ m) * 2 ^ (2 ^ m) = digits_lt a a in
      let c : r * s + r < 2 ^ (2 ^ suc m) = subst (λ k. r * k + r < 2 ^ (2 ^ suc m)) (sym side) (subst (λ n. r * 2 ^ (2 ^ m) + r < n) (sym (square m)) b) in
      let d : 2 ^ suc m ≤ 2 ^ 6 = pow_mono h in
      let k : 2 ^ (2 ^ suc m) ≤ 2 ^ 64 = pow_mono d in
      omega arith

-- The first bit of a word by its halves.
module _ (m w : ℕ) where
  pub no_bit : w ≡ 0 → FirstBit m w 0
  no_bit e =
      record {
        bound = omega arith;
        some = λ n. absurd (n e);
        found = λ f p. sym (ap (λ g. found_number (smallest m g)) (num_zero m f (sym p ∙ e)) ∙ none_found m);
      }

pub one_bit : (w : ℕ) → (w ≡ 0 → ⊥) → FirstBit 0 w 1
unfolding num smallest found_number point_number bit
one_bit w h = record { bound = omega arith; some = λ n. omega arith; found = found }
  where
    found : (f : Bool) → w ≡ num 0 f → 1 ≡ found_number (smallest 0 f)
    found true p = refl
    found false p = absurd (h p)

-- The lower half is what a mask leaves, the upper half what a shift brings down.
module _ (m w s n : ℕ) (h : m < 6) (side : s ≡ 2 ^ (2 ^ m)) (points : n ≡ 2 ^ m) where
  low_half : (f : Fn (suc m)) → w ≡ num (suc m) f → bit_and w (s - 1) ≡ num m f.0
  low_half f p = ap (λ k. bit_and w (k - 1)) side ∙ and_mask w (2 ^ m) ∙ ap (λ x. x % 2 ^ (2 ^ m)) p ∙ num-low m f

  high_half : (f : Fn (suc m)) → w ≡ num (suc m) f → w / 2 ^ n ≡ num m f.1
  high_half f p = ap₂ (λ x k. x / 2 ^ k) p points ∙ num-high m f

  -- A word both of whose halves are 0 is 0.
  both_zero : bit_and w (s - 1) ≡ 0 → w / 2 ^ n ≡ 0 → w ≡ 0
  both_zero p q =
      let a : w % 2 ^ (2 ^ m) ≡ 0 = sym (ap (λ k. bit_and w (k - 1)) side ∙ and_mask w (2 ^ m)) ∙ p in
      let b : w / 2 ^ (2 ^ m) ≡ 0 = ap (λ k. w / 2 ^ k) (sym points) ∙ q in
      sym (div-add-mod' w (2 ^ (2 ^ m))) ∙ ap₂ (λ x y. x * 2 ^ (2 ^ m) + y) b a ∙ omega arith

  low_zero : (r : ℕ) → FirstBit m (bit_and w (s - 1)) r → r ≡ 0 → bit_and w (s - 1) ≡ 0
  low_zero r b q = go (eqb (bit_and w (s - 1)) 0) refl
    where
      go : (t : Bool) → eqb (bit_and w (s - 1)) 0 ≡ t → bit_and w (s - 1) ≡ 0
      go true e = eqb-true (bit_and w (s - 1)) 0 e
      go false e = let l : 0 < r = b.some (eqb-false (bit_and w (s - 1)) 0 e) in let z : ⊥ = omega arith in absurd z

  pub bit_in_low : (r : ℕ) → FirstBit m (bit_and w (s - 1)) r → (r ≡ 0 → ⊥) → FirstBit (suc m) w (2 * r - 1)
  bit_in_low r b q =
      record {
        bound = omega (arith, b.bound, pow-suc 2 m);
        some = λ n. omega arith;
        found = λ f p.
            let e : r ≡ found_number (smallest m f.0) = b.found f.0 (low_half f p) in
            ap (λ k. 2 * k - 1) e ∙ sym (found_in_low m f (λ x. q (e ∙ x)));
      }

  pub bit_in_high : (r t : ℕ) → FirstBit m (bit_and w (s - 1)) r → r ≡ 0 → FirstBit m (w / 2 ^ n) t → FirstBit (suc m) w (2 * t)
  bit_in_high r t b q d =
      record {
        bound = omega (arith, d.bound, pow-suc 2 m);
        some = λ n. let l : 0 < t = d.some (λ e. n (both_zero (low_zero r b q) e)) in omega arith;
        found = λ f p.
            let e : r ≡ found_number (smallest m f.0) = b.found f.0 (low_half f p) in
            let g : t ≡ found_number (smallest m f.1) = d.found f.1 (high_half f p) in
            ap (λ k. 2 * k) g ∙ sym (found_in_high m f (sym e ∙ q));
      }

-- The same of m columns and the m - 1 after the first, as the code has them.
module _ (m o z r s : ℕ) (pos : 0 < m) where
  pub word-beyond : 6 < m → r ≡ leaf (m - 1) (o / 2) (z / 2) → r ≡ leaf m o z
  word-beyond =
      by_suc (λ m k. 6 < m → r ≡ leaf k (o / 2) (z / 2) → r ≡ leaf m o z)
      (λ k h e. let l : 6 ≤ k = omega arith in e ∙ sym (leaf-next k o z l)) m pos

  module _ (h : m ≤ 6) (e : r ≡ leaf (m - 1) (o / 2) (z / 2)) (side : s ≡ 2 ^ (2 ^ (m - 1))) where
    pub word_by_one : odd o ≡ true → r * s ≡ leaf m o z
    word_by_one p =
        by_suc (λ m k. m ≤ 6 → r ≡ leaf k (o / 2) (z / 2) → s ≡ 2 ^ (2 ^ k) → r * s ≡ leaf m o z)
        (λ k h e d. word_one k o z r s h e d p) m pos h e side

    pub word_by_dash : odd o ≡ false → odd z ≡ false → r * s + r ≡ leaf m o z
    word_by_dash p q =
        by_suc (λ m k. m ≤ 6 → r ≡ leaf k (o / 2) (z / 2) → s ≡ 2 ^ (2 ^ k) → r * s + r ≡ leaf m o z)
        (λ k h e d. word-dash k o z r s h e d p q) m pos h e side

    pub word_fits : r * s + r < 2 ^ 64
    word_fits =
        by_suc (λ m k. m ≤ 6 → r ≡ leaf k (o / 2) (z / 2) → s ≡ 2 ^ (2 ^ k) → r * s + r < 2 ^ 64)
        (λ k h e d. word_room k o z r s h e d) m pos h e side

pub word_by_zero : (m o z r : ℕ) → 0 < m → m ≤ 6 → r ≡ leaf (m - 1) (o / 2) (z / 2) → odd o ≡ false → odd z ≡ true → r ≡ leaf m o z
word_by_zero m o z r pos h e p q =
    by_suc (λ m k. m ≤ 6 → r ≡ leaf k (o / 2) (z / 2) → r ≡ leaf m o z)
    (λ k h e. word_zero k o z r (2 ^ (2 ^ k)) h e refl p q) m pos h e

module _ (m w s n : ℕ) (pos : 0 < m) (h : m ≤ 6) (side : s ≡ 2 ^ (2 ^ (m - 1))) (points : n ≡ 2 ^ (m - 1)) where
  pub first_in_low : (r : ℕ) → FirstBit (m - 1) (bit_and w (s - 1)) r → (r ≡ 0 → ⊥) → FirstBit m w (2 * r - 1)
  first_in_low r b q =
      by_suc (λ m k. m ≤ 6 → s ≡ 2 ^ (2 ^ k) → n ≡ 2 ^ k → FirstBit k (bit_and w (s - 1)) r → FirstBit m w (2 * r - 1))
      (λ k h e d b. bit_in_low k w s n h e d r b q) m pos h side points b

  pub first_in_high : (r t : ℕ) → FirstBit (m - 1) (bit_and w (s - 1)) r → r ≡ 0 → FirstBit (m - 1) (w / 2 ^ n) t → FirstBit m w (2 * t)
  first_in_high r t b q d =
      by_suc (λ m k. m ≤ 6 → s ≡ 2 ^ (2 ^ k) → n ≡ 2 ^ k → FirstBit k (bit_and w (s - 1)) r → FirstBit k (w / 2 ^ n) t → FirstBit m w (2 * t))
      (λ k h e c b d. bit_in_high k w s n h e c r t b q d) m pos h side points b d
