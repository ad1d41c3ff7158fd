-- The tests on whole numbers are the tests column by column: the bits that must be 1 are kept by the point's and those
-- that must be 0 are not, and two halves below the last column share no bit. Each goes by the lowest bits and the halves.
use mathlib.Core.Path.{◌≡◌, refl, sym, ap, ap₂, subst⁻¹, ◌∙◌}
use mathlib.Core.Bool.{Bool, true, false, not, ◌&&◌, ◌||◌, and_assoc, and-false}
use Prim.Native.Nat.{ℕ, zero, suc, ◌*◌, ◌/◌, ◌%◌, ◌^◌, ◌<◌, ◌≤◌, min}
use native.Mathlib.Nat.{pow-succ', min-eq_right}
use native.Mathlib.Omega.{arith}
use lib.Arith.{lt-one}
use lib.Bits.{bit_and, and_step}
use lib.Dec.{eqb, leb, ltb}
use lib.Pow.{pow_mono}
use borrow.Author.Tests.{eqb-true, eqb-false, eq-eqb, ne_eqb, leb-true, ltb-true, lt-ltb}
use Rattle.std.specs.Cmp.{both_ways}
use Rattle.rule.specs.Point.{bit, odd}
use Rattle.rule.specs.Number.{apart, well_formed, agree, number_covers}
use Rattle.rule.proofs.Points.{put-odd, half_below}

-- Two equalities are the same when each holds where the other does.
same_eqb : (a b c d : ℕ) → (a ≡ b → c ≡ d) → (c ≡ d → a ≡ b) → eqb a b ≡ eqb c d
same_eqb a b c d f g =
    both_ways (eqb a b) (eqb c d) (λ e. eq-eqb c d (f (eqb-true a b e))) (λ e. eq-eqb a b (g (eqb-true c d e)))

-- Whether two numbers have a third one's bits in common, by the lowest bits and the halves.
common_step : (a p t : ℕ) → eqb (bit_and a p) t ≡ (eqb (min (a % 2) (p % 2)) (t % 2) && eqb (bit_and (a / 2) (p / 2)) (t / 2))
common_step a p t = go (eqb (min (a % 2) (p % 2)) (t % 2)) refl
  where
    go : (b : Bool) → eqb (min (a % 2) (p % 2)) (t % 2) ≡ b → eqb (bit_and a p) t ≡ (b && eqb (bit_and (a / 2) (p / 2)) (t / 2))
    go true e =
        let s = and_step a p in
        let l = eqb-true (min (a % 2) (p % 2)) (t % 2) e in
        same_eqb (bit_and a p) t (bit_and (a / 2) (p / 2)) (t / 2) (λ q. omega arith) (λ q. omega arith)
    go false e = ne_eqb (bit_and a p) t (λ q. eqb-false (min (a % 2) (p % 2)) (t % 2) e (omega (arith, and_step a p)))

low_bit : (x : ℕ) → x % 2 ≡ bit (odd x)
low_bit x = omega (arith, put-odd x)

kept-bit : (a b : Bool) → eqb (min (bit a) (bit b)) (bit a) ≡ not (a && not b)
unfolding bit
kept-bit false false = refl
kept-bit false true = refl
kept-bit true false = refl
kept-bit true true = refl

cleared-bit : (a b : Bool) → eqb (min (bit a) (bit b)) 0 ≡ not (a && b)
unfolding bit
cleared-bit false false = refl
cleared-bit false true = refl
cleared-bit true false = refl
cleared-bit true true = refl

-- So of bits that must all be kept, and of bits that must all be cleared.
keeps_step : (o p : ℕ) → eqb (bit_and o p) o ≡ (not (odd o && not (odd p)) && eqb (bit_and (o / 2) (p / 2)) (o / 2))
keeps_step o p =
    common_step o p o ∙
    ap (λ b. b && eqb (bit_and (o / 2) (p / 2)) (o / 2))
    (ap₂ (λ x y. eqb (min x y) x) (low_bit o) (low_bit p) ∙ kept-bit (odd o) (odd p))

clears_step : (z p : ℕ) → eqb (bit_and z p) 0 ≡ (not (odd z && odd p) && eqb (bit_and (z / 2) (p / 2)) 0)
clears_step z p =
    common_step z p 0 ∙
    ap (λ b. b && eqb (bit_and (z / 2) (p / 2)) 0)
    (ap₂ (λ x y. eqb (min x y) 0) (low_bit z) (low_bit p) ∙ cleared-bit (odd z) (odd p))

columns_last : (x y a b : Bool) → (x && y && (a && b)) ≡ (x && a && (y && b))
columns_last true true a b = refl
columns_last true false true b = refl
columns_last true false false b = refl
columns_last false y a b = refl

pub agree_masks : (m o z p : ℕ) → o < 2 ^ m → z < 2 ^ m → agree m o z p ≡ (eqb (bit_and o p) o && eqb (bit_and z p) 0)
unfolding agree
agree_masks zero o z p h k =
    sym (ap₂ (λ x y. eqb (bit_and x p) x && eqb (bit_and y p) 0) (lt-one h) (lt-one k))
agree_masks (suc m) o z p h k =
    ap (λ b. not (odd o && not (odd p)) && not (odd z && odd p) && b)
    (agree_masks m (o / 2) (z / 2) (p / 2) (half_below m o h) (half_below m z k)) ∙
    columns_last (not (odd o && not (odd p))) (not (odd z && odd p))
    (eqb (bit_and (o / 2) (p / 2)) (o / 2)) (eqb (bit_and (z / 2) (p / 2)) 0) ∙
    sym (ap₂ ◌&&◌ (keeps_step o p) (clears_step z p))

-- Whether a number stays below the last column.
below_one : (x : ℕ) → eqb x 0 ≡ ltb x 1
below_one x =
    both_ways (eqb x 0) (ltb x 1) (λ e. lt-ltb x 1 (omega (arith, eqb-true x 0 e))) (λ e. eq-eqb x 0 (lt-one (ltb-true x 1 e)))

below_half : (m x : ℕ) → ltb (x / 2) (2 ^ m) ≡ ltb x (2 ^ suc m)
below_half m x =
    both_ways (ltb (x / 2) (2 ^ m)) (ltb x (2 ^ suc m))
    (λ e. lt-ltb x (2 ^ suc m) (omega (arith, pow-succ' 2 m, ltb-true (x / 2) (2 ^ m) e)))
    (λ e. lt-ltb (x / 2) (2 ^ m) (half_below m x (ltb-true x (2 ^ suc m) e)))

none_common : (o z : ℕ) → (ltb o 1 && ltb z 1) ≡ (eqb (bit_and o z) 0 && (ltb o 1 && ltb z 1))
none_common o z = go (ltb o 1) refl
  where
    go : (b : Bool) → ltb o 1 ≡ b → (b && ltb z 1) ≡ (eqb (bit_and o z) 0 && (b && ltb z 1))
    go true e = sym (ap (λ x. eqb (bit_and x z) 0 && ltb z 1) (lt-one (ltb-true o 1 e)))
    go false e = sym (and-false (eqb (bit_and o z) 0))

pub apart_masks : (m o z : ℕ) → apart m o z ≡ (eqb (bit_and o z) 0 && (ltb o (2 ^ m) && ltb z (2 ^ m)))
unfolding apart
apart_masks zero o z = ap₂ ◌&&◌ (below_one o) (below_one z) ∙ none_common o z
apart_masks (suc m) o z =
    ap (λ b. not (odd o && odd z) && b) (apart_masks m (o / 2) (z / 2)) ∙
    sym (and_assoc (not (odd o && odd z)) (eqb (bit_and (o / 2) (z / 2)) 0) (ltb (o / 2) (2 ^ m) && ltb (z / 2) (2 ^ m))) ∙
    ap₂ ◌&&◌ (sym (clears_step o z)) (ap₂ ◌&&◌ (below_half m o) (below_half m z))

-- The tests on a cube's number and its halves.
pub number_covers_masks : (x p : ℕ) → x < 2 ^ 32
    → number_covers x p ≡ (eqb (bit_and (x % 65536) p) (x % 65536) && eqb (bit_and (x / 65536) p) 0)
unfolding number_covers
number_covers_masks x p h = agree_masks 16 (x % 65536) (x / 65536) p (omega arith) (omega arith)

pub well_formed_masks : (m x : ℕ)
    → well_formed m x ≡ (eqb (bit_and (x % 65536) (x / 65536)) 0 && (ltb (x % 65536) (2 ^ m) && ltb (x / 65536) (2 ^ m)))
unfolding well_formed
well_formed_masks m x = apart_masks m (x % 65536) (x / 65536)

-- An answer of two tests, where the first has been made.
pub second_decides : (a b : Bool) {r : Bool} → r ≡ (a && b) → a ≡ true → b ≡ r
second_decides a b e h = sym (e ∙ ap (λ t. t && b) h)

pub first_decides : (a b : Bool) {r : Bool} → r ≡ (a && b) → a ≡ false → a ≡ r
first_decides a b e h = h ∙ sym (e ∙ ap (λ t. t && b) h)

-- One shifted by at most 16 places, as the code has it, is a power of two.
pub shifted_one : (m : ℕ) → m ≤ 16 → 1 * 2 ^ m % 4294967296 ≡ 2 ^ m
shifted_one m h = let k : 2 ^ m ≤ 2 ^ 16 = pow_mono h in omega arith

-- A half has at most 16 bits, so past 16 columns the shift may stay at 16 places.
capped : (m x : ℕ) → x < 65536 → ltb x (2 ^ m) ≡ ltb x (1 * 2 ^ min m 16 % 4294967296)
capped m x h =
    let k : min m 16 ≤ 16 = omega arith in
    let l : 2 ^ min m 16 ≤ 2 ^ m = pow_mono (omega arith) in
    both_ways (ltb x (2 ^ m)) (ltb x (2 ^ min m 16)) (λ e. lt-ltb x (2 ^ min m 16) (below (ltb-true x (2 ^ m) e)))
    (λ e. lt-ltb x (2 ^ m) (omega (arith, ltb-true x (2 ^ min m 16) e))) ∙
    ap (ltb x) (sym (shifted_one (min m 16) k))
  where
    below : x < 2 ^ m → x < 2 ^ min m 16
    below l = grind arith

pub well_formed_capped : (m x : ℕ) → x < 2 ^ 32 → well_formed m x ≡
    (eqb (bit_and (x % 65536) (x / 65536)) 0 &&
    (ltb (x % 65536) (1 * 2 ^ min m 16 % 4294967296) && ltb (x / 65536) (1 * 2 ^ min m 16 % 4294967296)))
well_formed_capped m x h =
    well_formed_masks m x ∙
    ap₂ (λ a b. eqb (bit_and (x % 65536) (x / 65536)) 0 && (a && b)) (capped m (x % 65536) (omega arith)) (capped m (x / 65536) (omega arith))

-- From 16 columns on every half stays below.
pub well_formed_wide : (m x : ℕ) → x < 2 ^ 32 → well_formed m x ≡
    (eqb (bit_and (x % 65536) (x / 65536)) 0 &&
    (leb 16 m || (ltb (x % 65536) (1 * 2 ^ min m 16 % 4294967296) && ltb (x / 65536) (1 * 2 ^ min m 16 % 4294967296))))
well_formed_wide m x h = go (leb 16 m) refl
  where
    half : ℕ → Bool
    half y = ltb y (1 * 2 ^ min m 16 % 4294967296)

    below : 16 ≤ m → (y : ℕ) → y < 65536 → half y ≡ true
    below l y k = lt-ltb y (1 * 2 ^ min m 16 % 4294967296) (subst⁻¹ (λ i. y < 1 * 2 ^ i % 4294967296) (min-eq_right l) k)

    go : (b : Bool) → leb 16 m ≡ b → well_formed m x ≡
        (eqb (bit_and (x % 65536) (x / 65536)) 0 && (b || (half (x % 65536) && half (x / 65536))))
    go true e =
        well_formed_capped m x h ∙
        ap₂ (λ a b. eqb (bit_and (x % 65536) (x / 65536)) 0 && (a && b)) (below (leb-true 16 m e) (x % 65536) (omega arith)) (below (leb-true 16 m e) (x / 65536) (omega arith))
    go false e = well_formed_capped m x h
