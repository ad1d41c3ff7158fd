-- Numbers of points: a number and the digits of a point go back and forth, a reading tells points of the same columns
-- apart, and the order of readings is not the order of numbers. Each law goes column by column: a number is its lowest
-- bit and its half.
use mathlib.Core.Path.{◌≡◌, refl, sym, ap, ap₂, ◌∙◌, subst}
use mathlib.Core.Bool.{Bool, true, false}
use mathlib.Core.List.{[], ◌∷◌}
use Prim.Native.Nat.{ℕ, zero, suc, ◌+◌, ◌*◌, ◌/◌, ◌%◌, ◌^◌, ◌<◌}
use native.Mathlib.Nat.{pow-succ'}
use native.Mathlib.Omega.{arith}
use lib.ListN.{length}
use lib.Dec.{lit<}
use lib.Arith.{lt-one}
use borrow.Author.Tests.{eqb-true, eqb-false, eq-eqb, ne_eqb}
use Rattle.rule.specs.Point.{Pt, bit, odd, point_number, digits, reading}

-- A number's lowest bit as a digit and as a remainder.
pub odd_true : (x : ℕ) → odd x ≡ true → x % 2 ≡ 1
unfolding odd
odd_true x e = eqb-true (x % 2) 1 e

pub odd_false : (x : ℕ) → odd x ≡ false → x % 2 ≡ 0
unfolding odd
odd_false x e = let z : x % 2 ≡ 1 → ⊥ = eqb-false (x % 2) 1 e in omega arith

bit_below : (b : Bool) → bit b < 2
unfolding bit
bit_below false = lit< tt
bit_below true = lit< tt

-- A digit put before a number is its lowest bit, and the number its half.
pub odd-put : (b : Bool) (n : ℕ) → odd (bit b + 2 * n) ≡ b
unfolding odd bit
odd-put false n = ne_eqb ((0 + 2 * n) % 2) 1 (λ e. omega arith)
odd-put true n = eq-eqb ((1 + 2 * n) % 2) 1 (omega arith)

pub half-put : (b : Bool) (n : ℕ) → (bit b + 2 * n) / 2 ≡ n
half-put b n = omega (arith, bit_below b)

-- A number is its lowest bit put before its half.
pub put-odd : (x : ℕ) → bit (odd x) + 2 * (x / 2) ≡ x
unfolding bit
put-odd x = go (odd x) refl
  where
    go : (b : Bool) → odd x ≡ b → bit b + 2 * (x / 2) ≡ x
    go false e = omega (arith, odd_false x e)
    go true e = omega (arith, odd_true x e)

-- Halving takes one column off a bound, and a digit put before a number adds one.
pub half_below : (m x : ℕ) → x < 2 ^ suc m → x / 2 < 2 ^ m
half_below m x h = omega (arith, pow-succ' 2 m)

pub put_below : (b : Bool) (m n : ℕ) → n < 2 ^ m → bit b + 2 * n < 2 ^ suc m
put_below b m n h = omega (arith, pow-succ' 2 m, bit_below b)

pub length_digits : (m x : ℕ) → length (digits m x) ≡ m
unfolding digits
length_digits zero x = refl
length_digits (suc m) x = ap suc (length_digits m (x / 2))

digits-own : (p : Pt) → digits (length p) (point_number p) ≡ p
unfolding digits point_number
digits-own [] = refl
digits-own (b ∷ p) =
    ap₂ ◌∷◌ (odd-put b (point_number p)) (ap (digits (length p)) (half-put b (point_number p)) ∙ digits-own p)

pub digits-point_number : (m : ℕ) (p : Pt) → length p ≡ m → digits m (point_number p) ≡ p
digits-point_number m p e = subst (λ n. digits n (point_number p) ≡ p) e (digits-own p)

pub point_number-digits : (m x : ℕ) → x < 2 ^ m → point_number (digits m x) ≡ x
unfolding digits point_number
point_number-digits zero x h = sym (lt-one h)
point_number-digits (suc m) x h =
    ap (λ n. bit (odd x) + 2 * n) (point_number-digits m (x / 2) (half_below m x h)) ∙ put-odd x

pub point_number_below : (p : Pt) → point_number p < 2 ^ length p
unfolding point_number
point_number_below [] = lit< tt
point_number_below (b ∷ p) = put_below b (length p) (point_number p) (point_number_below p)

pub reading_below : (p : Pt) → reading p < 2 ^ length p
unfolding reading bit
reading_below [] = lit< tt
reading_below (false ∷ p) = omega (arith, pow-succ' 2 (length p), reading_below p)
reading_below (true ∷ p) = omega (arith, pow-succ' 2 (length p), reading_below p)

-- The first digit weighs more than all that follow it, so readings of the same columns tell it.
lead-told : (a b : Bool) (p q : Pt) → length p ≡ length q → reading (a ∷ p) ≡ reading (b ∷ q) → (a ≡ b) × (reading p ≡ reading q)
unfolding reading bit
lead-told false false p q l e = (refl, omega arith)
lead-told false true p q l e = let z : ⊥ = omega (arith, ap (◌^◌ 2) l, reading_below p) in absurd z
lead-told true false p q l e = let z : ⊥ = omega (arith, ap (◌^◌ 2) l, reading_below q) in absurd z
lead-told true true p q l e = (refl, omega (arith, ap (◌^◌ 2) l))

-- The reading tells points of the same columns apart.
pub reading_tells : (p q : Pt) → length p ≡ length q → reading p ≡ reading q → p ≡ q
reading_tells [] [] l e = refl
reading_tells [] (b ∷ q) l e = let z : ⊥ = omega arith in absurd z
reading_tells (a ∷ p) [] l e = let z : ⊥ = omega arith in absurd z
reading_tells (a ∷ p) (b ∷ q) l e =
    let l' : length p ≡ length q = omega arith in
    let t = lead-told a b p q l' e in
    ap₂ ◌∷◌ t.0 (reading_tells p q l' t.1)

-- The order of readings is not the order of numbers: of 01 and 10 each has the smaller one.
pub orders_differ :
    (reading (false ∷ true ∷ []) < reading (true ∷ false ∷ [])) ×
    (point_number (true ∷ false ∷ []) < point_number (false ∷ true ∷ []))
unfolding reading point_number bit
orders_differ = (lit< tt, lit< tt)
