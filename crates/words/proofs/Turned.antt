-- Which literal can go: without it the cube covers what it covers and what it covers with the literal turned over. So once the
-- cube covers no off point, its literal can go exactly if nothing of the turned cube is found among the off points.
use mathlib.Core.Path.{◌≡◌, refl, sym, ap, ap₂, ◌∙◌}
use mathlib.Core.Bool.{Bool, true, false, not, ◌&&◌, ◌||◌, false≢true}
use mathlib.Core.List.{[], ◌∷◌}
use mathlib.Core.Logic.{◌⊎◌, inl, inr}
use Prim.Native.Nat.{ℕ, zero, suc, ◌+◌, ◌*◌, ◌/◌, ◌%◌, ◌^◌, ◌<◌}
use native.Mathlib.Nat.{pow-suc}
use native.Mathlib.Numerals.{one-add}
use native.Mathlib.Omega.{arith}
use lib.Bits.{bit_xor, differ, xor_step, xor_zero_r}
use lib.Dec.{eqb}
use lib.Pow.{shr-shr}
use borrow.Author.Tests.{eq-eqb, ne_eqb}
use Rattle.rule.specs.Func.{Fn, less, within}
use Rattle.rule.specs.Point.{Pt, lead, rest, at, odd, smallest}
use Rattle.rule.specs.Cube.{Sign, sign0, sign1, dash, Cube, lead_sign, rest_signs, permits, covers, cube_fn, is_literal, has_literal, without_literal}
use Rattle.rule.specs.Number.{sign_of, signs_from, apart}
use Rattle.rule.proofs.Bools.{or_none, or_true, or_right, and_over_or, and_left, and_right}
use Rattle.rule.proofs.Func.{within-at, at-within}
use Rattle.rule.proofs.Cubes.{at-cube_fn}
use Rattle.rule.proofs.Points.{odd_true, odd_false}
use Rattle.words.specs.Word.{found_number}
use Rattle.words.specs.Faults.{turned_sign, turned}
use Rattle.words.proofs.Answers.{same_truth, within-answer}

-- A literal and the same turned over permit both digits between them.
either-digit : (s : Sign) (d x : Bool) → is_literal s ≡ true → (permits dash d && x) ≡ ((permits s d && x) || (permits (turned_sign s) d && x))
unfolding permits turned_sign is_literal
either-digit sign0 false x e = sym (or_none x)
either-digit sign0 true x e = refl
either-digit sign1 false x e = refl
either-digit sign1 true x e = sym (or_none x)
either-digit dash d x e = absurd (false≢true e)

-- Without the literal the cube covers both.
without-covers : (m : ℕ) (c : Cube) (k : ℕ) (p : Pt) → has_literal c k ≡ true
    → covers m (without_literal c k) p ≡ (covers m c p || covers m (turned c k) p)
unfolding covers has_literal without_literal turned lead_sign rest_signs
without-covers zero c k p e = refl
without-covers (suc m) [] k p e = absurd (false≢true e)
without-covers (suc m) (s ∷ c) zero p e = either-digit s (lead p) (covers m c (rest p)) e
without-covers (suc m) (s ∷ c) (suc k) p e =
    ap (λ b. permits s (lead p) && b) (without-covers m c k (rest p) e) ∙
    sym (and_over_or (permits s (lead p)) (covers m c (rest p)) (covers m (turned c k) (rest p)))

module _ (m : ℕ) (u : Fn m) (c : Cube) (k : ℕ) (literal : has_literal c k ≡ true) (good : within m (cube_fn m c) u ≡ true) where
  both-within : within m (cube_fn m (turned c k)) u ≡ true → within m (cube_fn m (without_literal c k)) u ≡ true
  both-within w =
      at-within m (cube_fn m (without_literal c k)) u
      (λ p l e.
      go p (or_true (covers m c p) (covers m (turned c k) p)
      (sym (without-covers m c k p literal) ∙ sym (at-cube_fn m (without_literal c k) p) ∙ e)))
    where
      go : (p : Pt) → (covers m c p ≡ true) ⊎ (covers m (turned c k) p ≡ true) → at m u p ≡ true
      go p (inl e) = within-at m (cube_fn m c) u p good (at-cube_fn m c p ∙ e)
      go p (inr e) = within-at m (cube_fn m (turned c k)) u p w (at-cube_fn m (turned c k) p ∙ e)

  turned-within : within m (cube_fn m (without_literal c k)) u ≡ true → within m (cube_fn m (turned c k)) u ≡ true
  turned-within w =
      at-within m (cube_fn m (turned c k)) u
      (λ p l e.
      within-at m (cube_fn m (without_literal c k)) u p w
      (at-cube_fn m (without_literal c k) p ∙ without-covers m c k p literal ∙
      or_right (covers m c p) (covers m (turned c k) p) (sym (at-cube_fn m (turned c k) p) ∙ e)))

  pub literal-answer : within m (cube_fn m (without_literal c k)) u ≡ eqb (found_number (smallest m (less m (cube_fn m (turned c k)) u))) 0
  literal-answer =
      same_truth (within m (cube_fn m (without_literal c k)) u) (within m (cube_fn m (turned c k)) u) turned-within both-within ∙
      within-answer m (cube_fn m (turned c k)) u

-- The halves of the turned cube's number: the column's bit changed in both.
low_changed : (x : ℕ) → bit_xor x 1 ≡ x / 2 * 2 + differ (x % 2) 1
low_changed x = xor_step x 1 ∙ ap (λ n. n * 2 + differ (x % 2) 1) (xor_zero_r (x / 2))

odd_changed : (x : ℕ) → odd (bit_xor x 1) ≡ not (odd x)
unfolding odd
odd_changed x = go (odd x) refl
  where
    go : (b : Bool) → odd x ≡ b → eqb (bit_xor x 1 % 2) 1 ≡ not b
    go true e = let d : bit_xor x 1 ≡ x / 2 * 2 + 0 = low_changed x ∙ ap (λ n. x / 2 * 2 + differ n 1) (odd_true x e) in ne_eqb (bit_xor x 1 % 2) 1 (λ z. omega arith)
    go false e = let d : bit_xor x 1 ≡ x / 2 * 2 + 1 = low_changed x ∙ ap (λ n. x / 2 * 2 + differ n 1) (odd_false x e) in eq-eqb (bit_xor x 1 % 2) 1 (omega arith)

half_changed : (x : ℕ) → bit_xor x 1 / 2 ≡ x / 2
half_changed x = go (odd x) refl
  where
    go : (b : Bool) → odd x ≡ b → bit_xor x 1 / 2 ≡ x / 2
    go true e = let d : bit_xor x 1 ≡ x / 2 * 2 + 0 = low_changed x ∙ ap (λ n. x / 2 * 2 + differ n 1) (odd_true x e) in omega arith
    go false e = let d : bit_xor x 1 ≡ x / 2 * 2 + 1 = low_changed x ∙ ap (λ n. x / 2 * 2 + differ n 1) (odd_false x e) in omega arith

differ_none : (x : ℕ) → differ x 0 ≡ x
differ_none zero = refl
differ_none (suc x) = refl

high_changed : (k x : ℕ) → bit_xor x (2 ^ suc k) ≡ bit_xor (x / 2) (2 ^ k) * 2 + x % 2
high_changed k x =
    let a : 2 ^ suc k / 2 ≡ 2 ^ k = omega (arith, pow-suc 2 k) in
    let b : 2 ^ suc k % 2 ≡ 0 = omega (arith, pow-suc 2 k) in
    xor_step x (2 ^ suc k) ∙ ap₂ (λ h l. bit_xor (x / 2) h * 2 + differ (x % 2) l) a b ∙
    ap (λ n. bit_xor (x / 2) (2 ^ k) * 2 + n) (differ_none (x % 2))

odd-kept : (k x : ℕ) → odd (bit_xor x (2 ^ suc k)) ≡ odd x
unfolding odd
odd-kept k x = let a : bit_xor x (2 ^ suc k) % 2 ≡ x % 2 = omega (arith, high_changed k x) in ap (λ n. eqb n 1) a

half-kept : (k x : ℕ) → bit_xor x (2 ^ suc k) / 2 ≡ bit_xor (x / 2) (2 ^ k)
half-kept k x = omega (arith, high_changed k x)

-- A literal's bits both changed are those of the sign turned over.
sign_changed : (o z : Bool) → is_literal (sign_of o z) ≡ true → not (o && z) ≡ true → sign_of (not o) (not z) ≡ turned_sign (sign_of o z)
unfolding sign_of is_literal turned_sign
sign_changed true true e n = absurd (false≢true n)
sign_changed true false e n = refl
sign_changed false true e n = refl
sign_changed false false e n = absurd (false≢true e)

pub turned-number : (m k o z : ℕ) → has_literal (signs_from m o z) k ≡ true → apart m o z ≡ true
    → signs_from m (bit_xor o (2 ^ k)) (bit_xor z (2 ^ k)) ≡ turned (signs_from m o z) k
unfolding signs_from has_literal turned apart
turned-number zero k o z e a = absurd (false≢true e)
turned-number (suc m) zero o z e a =
    ap₂ ◌∷◌
    (ap₂ sign_of (odd_changed o) (odd_changed z) ∙
    sign_changed (odd o) (odd z) e (and_left (not (odd o && odd z)) (apart m (o / 2) (z / 2)) a))
    (ap₂ (signs_from m) (half_changed o) (half_changed z))
turned-number (suc m) (suc k) o z e a =
    ap₂ ◌∷◌ (ap₂ sign_of (odd-kept k o) (odd-kept k z))
    (ap₂ (signs_from m) (half-kept k o) (half-kept k z) ∙
    turned-number m k (o / 2) (z / 2) e (and_right (not (odd o && odd z)) (apart m (o / 2) (z / 2)) a))

-- Whether a column has a literal, by its bits in the two halves.
literal_by_bits : (o z : Bool) → is_literal (sign_of o z) ≡ (o || z)
unfolding sign_of is_literal
literal_by_bits true z = refl
literal_by_bits false true = refl
literal_by_bits false false = refl

later_bit : (k x : ℕ) → odd (x / 2 / 2 ^ k) ≡ odd (x / 2 ^ suc k)
later_bit k x = ap odd (shr-shr x 1 k ∙ ap (λ n. x / 2 ^ n) (one-add k))

pub literal_bits : (m k o z : ℕ) → k < m → has_literal (signs_from m o z) k ≡ (odd (o / 2 ^ k) || odd (z / 2 ^ k))
unfolding signs_from has_literal
literal_bits zero k o z h = let e : ⊥ = omega arith in absurd e
literal_bits (suc m) zero o z h =
    let a : o ≡ o / 1 = omega arith in
    let b : z ≡ z / 1 = omega arith in
    literal_by_bits (odd o) (odd z) ∙ ap₂ (λ x y. odd x || odd y) a b
literal_bits (suc m) (suc k) o z h =
    literal_bits m k (o / 2) (z / 2) (omega arith) ∙ ap₂ ◌||◌ (later_bit k o) (later_bit k z)
