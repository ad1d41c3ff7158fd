-- The signs of a row: which bytes they are, and the cube's number read from the last to the first.
use mathlib.Core.Path.{◌≡◌, refl, ap}
use mathlib.Core.Bool.{Bool, ◌&&◌}
use mathlib.Core.List.{List, [], ◌∷◌, map}
use Prim.Native.Nat.{ℕ, ◌+◌, ◌*◌, ◌^◌, ◌<◌, ◌≤◌}
use native.Mathlib.Omega.{arith}
use lib.Dec.{leb}
use lib.ListN.{length, length-map}
use borrow.Author.Tests.{le-leb, lt-leb}
use Rattle.std.specs.List.{list_all, push}
use Rattle.rule.specs.Point.{bit}
use Rattle.rule.specs.Number.{is_one, is_zero, ones_of, zeros_of, cube_number}
use Rattle.rule.proofs.Number.{cube_number_below}
use Rattle.line.specs.Decimal.{all}
use Rattle.line.specs.Meaning.{is_sign, read_sign, is_cube, read_cube}

-- std's test of every byte.
list_all-all : (p : ℕ → Bool) (l : List ℕ) → list_all p l ≡ all p l
unfolding all
list_all-all p [] = refl
list_all-all p (b ∷ t) = ap (λ r. p b && r) (list_all-all p t)

module _ (a : List ℕ) where
  pub long-cube : 16 < length a → leb (length a) 16 ≡ is_cube a
  unfolding is_cube
  long-cube h = rw (lt-leb (length a) 16 h)

  pub short-cube : length a ≤ 16 → list_all is_sign a ≡ is_cube a
  unfolding is_cube
  short-cube h = rw (le-leb (length a) 16 h) (list_all-all is_sign a)

  pub cube_fits : length a ≤ 16 → cube_number (read_cube a) < 2 ^ 32
  unfolding read_cube
  cube_fits h = cube_number_below (map read_sign a) (omega (arith, length-map a read_sign))

-- The number of signs that stand before others of number x.
abbrev pub sign_number : ℕ → ℕ
sign_number b = bit (is_one (read_sign b)) + 65536 * bit (is_zero (read_sign b))

unfoldable pub number_before : List ℕ → ℕ → ℕ
number_before [] x = x
number_before (b ∷ t) x = sign_number b + 2 * number_before t x

pub number_before-whole : (a : List ℕ) → number_before a 0 ≡ cube_number (read_cube a)
unfolding number_before cube_number ones_of zeros_of read_cube
number_before-whole [] = refl
number_before-whole (b ∷ t) = omega (arith, number_before-whole t)

pub number_before-last : (a : List ℕ) (b x : ℕ) → number_before (push a b) x ≡ number_before a (sign_number b + 2 * x)
unfolding number_before
number_before-last [] b x = refl
number_before-last (d ∷ t) b x = ap (λ n. sign_number d + 2 * n) (number_before-last t b x)

pub number_before-grows : (a : List ℕ) (x : ℕ) → x ≤ number_before a x
unfolding number_before
number_before-grows [] x = omega arith
number_before-grows (b ∷ t) x = omega (arith, number_before-grows t x)

pub number_before-none : (a : List ℕ) (x : ℕ) → length a ≡ 0 → number_before a x ≡ x
unfolding number_before
number_before-none [] x e = refl
number_before-none (b ∷ t) x e = let z : ⊥ = omega (arith, e) in absurd z
