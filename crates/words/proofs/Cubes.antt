-- Laws of a cube that is given by its two halves: its function and its words, column by column.
use mathlib.Core.Path.{◌≡◌, refl, sym, ap, ap₂, ◌∙◌}
use mathlib.Core.Bool.{Bool, true, false, cond, not, ◌&&◌}
use mathlib.Core.List.{[], ◌∷◌, ◌++◌}
use mathlib.Core.Logic.{◌⊎◌, inl, inr}
use Prim.Native.Nat.{ℕ, zero, suc, ◌+◌, ◌-◌, ◌*◌, ◌/◌, ◌%◌, ◌^◌, ◌<◌, ◌≤◌}
use native.Mathlib.Nat.{pow-suc}
use native.Mathlib.Omega.{arith}
use lib.Arith.{mod-mul}
use lib.Bits.{bit_and, and_mask}
use lib.Dec.{eqb, lit≤}
use lib.ListN.{replicate}
use lib.Pow.{pow_pos, pow_mono}
use borrow.Author.Tests.{lt-ltb, le-ltb, eq-eqb, ne_eqb, eqb-true, eqb-false}
use Rattle.rule.specs.Func.{constant}
use Rattle.rule.specs.Point.{odd}
use Rattle.rule.specs.Cube.{cube_fn, under, lead_sign, rest_signs}
use Rattle.rule.specs.Number.{sign_of, signs_from}
use Rattle.rule.proofs.Bools.{and_left, and_right, not_is_true}
use Rattle.rule.proofs.Masks.{second_decides, first_decides}
use Rattle.rule.proofs.Points.{odd_true, odd_false}
use Rattle.words.specs.Word.{num, words, size, cube_of, plain, leaf}
use Rattle.words.proofs.Tables.{few, words-few, words-halves, repeat_few, repeat_double}

-- A cube's function by the sign of its first column.
module _ (m o z : ℕ) where
  cube_by_bits : (a b : Bool) → odd o ≡ a → odd z ≡ b → cube_of (suc m) o z ≡ under (sign_of a b) (cube_of m (o / 2) (z / 2)) (constant m false)
  unfolding cube_fn signs_from lead_sign rest_signs
  cube_by_bits a b p q = ap₂ (λ x y. under (sign_of x y) (cube_of m (o / 2) (z / 2)) (constant m false)) p q

  pub cube_one : odd o ≡ true → cube_of (suc m) o z ≡ (constant m false, cube_of m (o / 2) (z / 2))
  unfolding under sign_of
  cube_one p = cube_by_bits true (odd z) p refl

  pub cube_zero : odd o ≡ false → odd z ≡ true → cube_of (suc m) o z ≡ (cube_of m (o / 2) (z / 2), constant m false)
  unfolding under sign_of
  cube_zero p q = cube_by_bits false true p q

  pub cube-dash : odd o ≡ false → odd z ≡ false → cube_of (suc m) o z ≡ (cube_of m (o / 2) (z / 2), cube_of m (o / 2) (z / 2))
  unfolding under sign_of
  cube-dash p q = cube_by_bits false false p q

-- The word of the last six columns.
pub leaf-few : (m o z : ℕ) → m ≤ 6 → leaf m o z ≡ num m (cube_of m o z)
unfolding leaf
leaf-few zero o z h = refl
leaf-few (suc m) o z h =
    ap (λ b. cond b (num (suc m) (cube_of (suc m) o z)) (leaf m (o / 2) (z / 2))) (lt-ltb m 6 h)

pub leaf-next : (m o z : ℕ) → 6 ≤ m → leaf (suc m) o z ≡ leaf m (o / 2) (z / 2)
unfolding leaf
leaf-next m o z h =
    ap (λ b. cond b (num (suc m) (cube_of (suc m) o z)) (leaf m (o / 2) (z / 2))) (le-ltb m 6 h)

-- Dashes before the last six columns.
pub plain-few : (m o z : ℕ) → m ≤ 6 → plain m o z ≡ true
unfolding plain
plain-few zero o z h = refl
plain-few (suc m) o z h =
    ap (λ b. cond b true ((not (odd o) && not (odd z)) && plain m (o / 2) (z / 2))) (lt-ltb m 6 h)

pub plain-next : (m o z : ℕ) → 6 ≤ m → plain (suc m) o z ≡ ((not (odd o) && not (odd z)) && plain m (o / 2) (z / 2))
unfolding plain
plain-next m o z h =
    ap (λ b. cond b true ((not (odd o) && not (odd z)) && plain m (o / 2) (z / 2))) (le-ltb m 6 h)

-- Then every word of the cube's table is the same.
pub words-plain : (m o z : ℕ) → plain m o z ≡ true → words m (cube_of m o z) ≡ replicate (size m) (leaf m o z)
words-plain zero o z e =
    words-few zero (cube_of zero o z) (lit≤ tt) ∙ ap (λ w. w ∷ []) (sym (leaf-few zero o z (lit≤ tt))) ∙
    sym (repeat_few zero (leaf zero o z) (lit≤ tt))
words-plain (suc m) o z e = go (few m) (words-plain m (o / 2) (z / 2))
  where
    go : (m < 6) ⊎ (6 ≤ m)
        → (plain m (o / 2) (z / 2) ≡ true → words m (cube_of m (o / 2) (z / 2)) ≡ replicate (size m) (leaf m (o / 2) (z / 2)))
        → words (suc m) (cube_of (suc m) o z) ≡ replicate (size (suc m)) (leaf (suc m) o z)
    go (inl l) ih =
        words-few (suc m) (cube_of (suc m) o z) l ∙ ap (λ w. w ∷ []) (sym (leaf-few (suc m) o z l)) ∙
        sym (repeat_few (suc m) (leaf (suc m) o z) l)
    go (inr h) ih =
        let p : ((not (odd o) && not (odd z)) && plain m (o / 2) (z / 2)) ≡ true = sym (plain-next m o z h) ∙ e in
        let q : (not (odd o) && not (odd z)) ≡ true = and_left (not (odd o) && not (odd z)) (plain m (o / 2) (z / 2)) p in
        let o₀ : odd o ≡ false = not_is_true (odd o) (and_left (not (odd o)) (not (odd z)) q) in
        let z₀ : odd z ≡ false = not_is_true (odd z) (and_right (not (odd o)) (not (odd z)) q) in
        let t : words m (cube_of m (o / 2) (z / 2)) ≡ replicate (size m) (leaf m (o / 2) (z / 2)) =
        ih (and_right (not (odd o) && not (odd z)) (plain m (o / 2) (z / 2)) p) in
        words-halves m (cube_of (suc m) o z) h ∙
        ap (λ f. words m f.0 ++ words m f.1) (cube-dash m o z o₀ z₀) ∙
        ap₂ ◌++◌ t t ∙ repeat_double m (leaf m (o / 2) (z / 2)) h ∙
        ap (replicate (size (suc m))) (sym (leaf-next m o z h))

-- The test as the code makes it: no bit of either half below the last six columns.
twice_zero : (y : ℕ) → eqb (y * 2 + 0) 0 ≡ eqb y 0
twice_zero y = go (eqb y 0) refl
  where
    go : (b : Bool) → eqb y 0 ≡ b → eqb (y * 2 + 0) 0 ≡ b
    go true e = eq-eqb (y * 2 + 0) 0 (omega (arith, eqb-true y 0 e))
    go false e = ne_eqb (y * 2 + 0) 0 (λ p. let z : y ≡ 0 → ⊥ = eqb-false y 0 e in omega arith)

low_bits : (k x : ℕ) → eqb (x % 2 ^ suc k) 0 ≡ (not (odd x) && eqb (x / 2 % 2 ^ k) 0)
low_bits k x = ap (λ n. eqb n 0) split ∙ go (odd x) refl
  where
    split : x % 2 ^ suc k ≡ (x / 2 % 2 ^ k) * 2 + x % 2
    split = ap (λ n. x % n) (pow-suc 2 k) ∙ mod-mul x (pow_pos k) (pow_pos 1)

    go : (b : Bool) → odd x ≡ b → eqb ((x / 2 % 2 ^ k) * 2 + x % 2) 0 ≡ (not b && eqb (x / 2 % 2 ^ k) 0)
    go true e = ne_eqb ((x / 2 % 2 ^ k) * 2 + x % 2) 0 (λ p. let q : x % 2 ≡ 1 = odd_true x e in omega arith)
    go false e = ap (λ n. eqb ((x / 2 % 2 ^ k) * 2 + n) 0) (odd_false x e) ∙ twice_zero (x / 2 % 2 ^ k)

regroup : (a b c d : Bool) → ((a && b) && (c && d)) ≡ ((a && c) && (b && d))
regroup true true c d = refl
regroup true false true d = refl
regroup true false false d = refl
regroup false b c d = refl

pub plain_masks : (m o z : ℕ) → 6 ≤ m → plain m o z ≡ (eqb (o % 2 ^ (m - 6)) 0 && eqb (z % 2 ^ (m - 6)) 0)
plain_masks zero o z h = let e : ⊥ = omega arith in absurd e
plain_masks (suc m) o z h = go (few m) (plain_masks m (o / 2) (z / 2))
  where
    go : (m < 6) ⊎ (6 ≤ m)
        → (6 ≤ m → plain m (o / 2) (z / 2) ≡ (eqb (o / 2 % 2 ^ (m - 6)) 0 && eqb (z / 2 % 2 ^ (m - 6)) 0))
        → plain (suc m) o z ≡ (eqb (o % 2 ^ (suc m - 6)) 0 && eqb (z % 2 ^ (suc m - 6)) 0)
    go (inl l) ih =
        let e : suc m - 6 ≡ 0 = omega arith in
        let p : o % 1 ≡ 0 = omega arith in
        let q : z % 1 ≡ 0 = omega arith in
        plain-few (suc m) o z l ∙
        sym (ap (λ k. eqb (o % 2 ^ k) 0 && eqb (z % 2 ^ k) 0) e ∙
        ap₂ ◌&&◌ (eq-eqb (o % 1) 0 p) (eq-eqb (z % 1) 0 q))
    go (inr l) ih =
        let e : suc m - 6 ≡ suc (m - 6) = omega arith in
        plain-next m o z l ∙ ap (λ b. (not (odd o) && not (odd z)) && b) (ih l) ∙
        regroup (not (odd o)) (not (odd z)) (eqb (o / 2 % 2 ^ (m - 6)) 0) (eqb (z / 2 % 2 ^ (m - 6)) 0) ∙
        sym (ap (λ k. eqb (o % 2 ^ k) 0 && eqb (z % 2 ^ k) 0) e ∙
        ap₂ ◌&&◌ (low_bits (m - 6) o) (low_bits (m - 6) z))

-- The test as the code shifts and masks it.
module _ (m o z : ℕ) (more : 6 < m) (most : m ≤ 16) where
  abbrev before : ℕ
  before = 1 * 2 ^ (m - 6) % 65536

  before-is : before ≡ 2 ^ (m - 6)
  before-is =
      let l : m - 6 ≤ 10 = omega arith in
      let p : 2 ^ (m - 6) ≤ 2 ^ 10 = pow_mono l in
      omega arith

  pub before-some : 1 ≤ before
  before-some = omega (arith, before-is, pow_pos (m - 6))

  masked : (x : ℕ) → bit_and x (before - 1) ≡ x % 2 ^ (m - 6)
  masked x = ap (λ n. bit_and x (n - 1)) before-is ∙ and_mask x (m - 6)

  both_masked : plain m o z ≡ (eqb (bit_and o (before - 1)) 0 && eqb (bit_and z (before - 1)) 0)
  both_masked =
      let l : 6 ≤ m = omega arith in
      plain_masks m o z l ∙ sym (ap₂ (λ x y. eqb x 0 && eqb y 0) (masked o) (masked z))

  pub zeros_decide : bit_and o (before - 1) ≡ 0 → eqb (bit_and z (before - 1)) 0 ≡ plain m o z
  zeros_decide e =
      second_decides (eqb (bit_and o (before - 1)) 0) (eqb (bit_and z (before - 1)) 0) both_masked
      (eq-eqb (bit_and o (before - 1)) 0 e)

  pub ones_decide : (bit_and o (before - 1) ≡ 0 → ⊥) → eqb (bit_and o (before - 1)) 0 ≡ plain m o z
  ones_decide h =
      first_decides (eqb (bit_and o (before - 1)) 0) (eqb (bit_and z (before - 1)) 0) both_masked
      (ne_eqb (bit_and o (before - 1)) 0 h)
