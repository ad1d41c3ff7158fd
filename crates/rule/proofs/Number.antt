-- Numbers of cubes: a number and the signs of a cube go back and forth, and the number tells which points the cube covers
-- and how many literals it has. Each law is first shown of the two halves of a number, the columns that must be 1 and
-- those that must be 0, column by column, and then of the number that they make.
use mathlib.Core.Path.{◌≡◌, refl, sym, ap, ap₂, ◌∙◌, subst}
use mathlib.Core.Bool.{Bool, true, false, not, ◌&&◌, and-eq-true_iff, false≢true}
use mathlib.Core.List.{List, [], ◌∷◌, map, foldr}
use Prim.Native.Nat.{ℕ, zero, suc, ◌+◌, ◌-◌, ◌*◌, ◌/◌, ◌%◌, ◌^◌, ◌<◌, ◌≤◌, min, zero-le, suc-le-suc}
use native.Mathlib.Nat.{not-suc-le-zero, le_of_suc-le-suc}
use native.Mathlib.Omega.{arith}
use lib.ListN.{length, get_or}
use lib.Count.{ones, ones_in, ones_step, ones_cat}
use lib.Dec.{eqb, lit<}
use lib.Pow.{pow_mono}
use borrow.Author.Tests.{eqb-true}
use Rattle.std.specs.List.{fold}
use Rattle.rule.specs.Point.{bit, odd, digits, lead, rest}
use Rattle.rule.specs.Cube.{Sign, sign0, sign1, dash, Cube, lead_sign, rest_signs, permits, covers, is_literal, count_if, literals, dashes}
use Rattle.rule.specs.Number.{is_one, is_zero, ones_of, zeros_of, cube_number, sign_of, signs_from, signs, apart, well_formed, agree, number_covers, literal_sum}
use Rattle.rule.proofs.Points.{odd-put, half-put, put-odd, put_below}

-- One column: the sign and its two bits.
sign_of_bits : (s : Sign) → sign_of (is_one s) (is_zero s) ≡ s
unfolding sign_of is_one is_zero
sign_of_bits sign0 = refl
sign_of_bits sign1 = refl
sign_of_bits dash = refl

never_both : (s : Sign) → not (is_one s && is_zero s) ≡ true
unfolding is_one is_zero
never_both sign0 = refl
never_both sign1 = refl
never_both dash = refl

-- What a column of bits that are not both set says, by its sign.
one_of_sign : (o z : Bool) → is_one (sign_of o z) ≡ o
unfolding sign_of is_one
one_of_sign true z = refl
one_of_sign false true = refl
one_of_sign false false = refl

zero_of_sign : (o z : Bool) → not (o && z) ≡ true → is_zero (sign_of o z) ≡ z
unfolding sign_of is_zero
zero_of_sign true true e = absurd (false≢true e)
zero_of_sign true false e = refl
zero_of_sign false true e = refl
zero_of_sign false false e = refl

permits_by_bits : (o z d : Bool) → not (o && z) ≡ true → (not (o && not d) && not (z && d)) ≡ permits (sign_of o z) d
unfolding sign_of permits
permits_by_bits true true d e = absurd (false≢true e)
permits_by_bits true false true e = refl
permits_by_bits true false false e = refl
permits_by_bits false true true e = refl
permits_by_bits false true false e = refl
permits_by_bits false false d e = refl

literal_by_bits : (o z : Bool) (n : ℕ) → not (o && z) ≡ true → bit o + bit z + n ≡ count_if (is_literal (sign_of o z)) n
unfolding sign_of is_literal count_if bit
literal_by_bits true true n e = absurd (false≢true e)
literal_by_bits true false n e = omega arith
literal_by_bits false true n e = omega arith
literal_by_bits false false n e = omega arith

-- Halves that stay below the last column and are apart there, column by column.
none_set : (o z : ℕ) → (eqb o 0 && eqb z 0) ≡ true → (o ≡ 0) × (z ≡ 0)
none_set o z e =
    let t : (eqb o 0 ≡ true) × (eqb z 0 ≡ true) = (and-eq-true_iff (eqb o 0) (eqb z 0)).0 e in
    (eqb-true o 0 t.0, eqb-true z 0 t.1)

length-signs_from : (m o z : ℕ) → length (signs_from m o z) ≡ m
unfolding signs_from
length-signs_from zero o z = refl
length-signs_from (suc m) o z = ap suc (length-signs_from m (o / 2) (z / 2))

halves_below : (c : Cube) → (ones_of c < 2 ^ length c) × (zeros_of c < 2 ^ length c)
unfolding ones_of zeros_of
halves_below [] = (lit< tt, lit< tt)
halves_below (s ∷ c) =
    let h = halves_below c in
    (put_below (is_one s) (length c) (ones_of c) h.0, put_below (is_zero s) (length c) (zeros_of c) h.1)

signs_from-halves : (c : Cube) → signs_from (length c) (ones_of c) (zeros_of c) ≡ c
unfolding ones_of zeros_of signs_from
signs_from-halves [] = refl
signs_from-halves (s ∷ c) = simp (odd-put, half-put, sign_of_bits, signs_from-halves c)

halves-apart : (c : Cube) → apart (length c) (ones_of c) (zeros_of c) ≡ true
unfolding ones_of zeros_of apart
halves-apart [] = refl
halves-apart (s ∷ c) = simp (odd-put, half-put, never_both, halves-apart c)

-- What `apart` says of the first column and of the columns after it.
first-apart : (m o z : ℕ) → apart (suc m) o z ≡ true → (not (odd o && odd z) ≡ true) × (apart m (o / 2) (z / 2) ≡ true)
unfolding apart
first-apart m o z e = (and-eq-true_iff (not (odd o && odd z)) (apart m (o / 2) (z / 2))).0 e

halves-signs_from : (m o z : ℕ) → apart m o z ≡ true → (ones_of (signs_from m o z) ≡ o) × (zeros_of (signs_from m o z) ≡ z)
unfolding ones_of zeros_of signs_from apart
halves-signs_from zero o z e = let t = none_set o z e in (sym t.0, sym t.1)
halves-signs_from (suc m) o z e =
    let t = first-apart m o z e in
    let h = halves-signs_from m (o / 2) (z / 2) t.1 in (
      ap₂ (λ b n. bit b + 2 * n) (one_of_sign (odd o) (odd z)) h.0 ∙ put-odd o,
      ap₂ (λ b n. bit b + 2 * n) (zero_of_sign (odd o) (odd z) t.0) h.1 ∙ put-odd z,
    )

agree-none : (n p : ℕ) → agree n 0 0 p ≡ true
unfolding agree odd
agree-none zero p = refl
agree-none (suc n) p = agree-none n (p / 2)

-- Columns past the last have no bit, so they agree with every point.
agree-covers : (n m o z p : ℕ) → m ≤ n → apart m o z ≡ true → agree n o z p ≡ covers m (signs_from m o z) (digits m p)
unfolding agree apart covers signs_from digits lead_sign rest_signs lead rest
agree-covers n zero o z p h e =
    let t = none_set o z e in
    ap₂ (λ x y. agree n x y p) t.0 t.1 ∙ agree-none n p
agree-covers zero (suc m) o z p h e = absurd (not-suc-le-zero h)
agree-covers (suc n) (suc m) o z p h e =
    let t = first-apart m o z e in
    ap₂ ◌&&◌ (permits_by_bits (odd o) (odd z) (odd p) t.0)
    (agree-covers n m (o / 2) (z / 2) (p / 2) (le_of_suc-le-suc h) t.1)

literals-signs_from : (m o z : ℕ) → apart m o z ≡ true → ones o + ones z ≡ literals (signs_from m o z)
unfolding apart signs_from literals ones ones_in
literals-signs_from zero o z e =
    let t = none_set o z e in
    ap₂ (λ x y. ones x + ones y) t.0 t.1
literals-signs_from (suc m) o z e =
    let t = first-apart m o z e in
    let h = literals-signs_from m (o / 2) (z / 2) t.1 in
    let l = literal_by_bits (odd o) (odd z) (literals (signs_from m (o / 2) (z / 2))) t.0 in
    omega (arith, ones_step o, ones_step z, put-odd o, put-odd z)

-- The two halves of the number of a cube of at most 16 columns, and what they stay below.
record Halves (c : Cube) : Type 0 where
  low : cube_number c % 65536 ≡ ones_of c
  high : cube_number c / 65536 ≡ zeros_of c
  low_below : ones_of c < 65536
  high_below : zeros_of c < 65536

halves_of_number : (c : Cube) → length c ≤ 16 → Halves c
unfolding cube_number
halves_of_number c h =
    let k : 2 ^ length c ≤ 65536 = pow_mono h in
    let b = halves_below c in
    record { low = omega arith; high = omega arith; low_below = omega arith; high_below = omega arith }

pub cube_number_below : (c : Cube) → length c ≤ 16 → cube_number c < 2 ^ 32
unfolding cube_number
cube_number_below c h = let n = halves_of_number c h in omega arith

pub length-signs : (m x : ℕ) → length (signs m x) ≡ m
unfolding signs
length-signs m x = length-signs_from m (x % 65536) (x / 65536)

pub signs-cube_number : (m : ℕ) (c : Cube) → length c ≡ m → m ≤ 16 → signs m (cube_number c) ≡ c
unfolding signs
signs-cube_number m c e h =
    let n = halves_of_number c (subst (λ k. k ≤ 16) (sym e) h) in
    ap₂ (signs_from m) n.low n.high ∙ subst (λ k. signs_from k (ones_of c) (zeros_of c) ≡ c) e (signs_from-halves c)

pub well_formed-cube_number : (m : ℕ) (c : Cube) → length c ≡ m → m ≤ 16 → well_formed m (cube_number c) ≡ true
unfolding well_formed
well_formed-cube_number m c e h =
    let n = halves_of_number c (subst (λ k. k ≤ 16) (sym e) h) in
    ap₂ (apart m) n.low n.high ∙ subst (λ k. apart k (ones_of c) (zeros_of c) ≡ true) e (halves-apart c)

pub cube_number-signs : (m x : ℕ) → well_formed m x ≡ true → cube_number (signs m x) ≡ x
unfolding well_formed signs cube_number
cube_number-signs m x w = let h = halves-signs_from m (x % 65536) (x / 65536) w in omega arith

pub number_covers-covers : (m x p : ℕ) → m ≤ 16 → well_formed m x ≡ true → number_covers x p ≡ covers m (signs m x) (digits m p)
unfolding well_formed number_covers signs
number_covers-covers m x p h w = agree-covers 16 m (x % 65536) (x / 65536) p h w

-- The set bits of a well-formed number are its cube's literals.
pub ones_literals : (m x : ℕ) → well_formed m x ≡ true → ones x ≡ literals (signs m x)
unfolding well_formed signs
ones_literals m x w =
    let o : ℕ = x % 65536 in
    let z : ℕ = x / 65536 in
    let e : z * 2 ^ 16 + o ≡ x = omega arith in
    let c : ones x ≡ ones z + ones o = ap ones (sym e) ∙ ones_cat 16 z o (omega arith) in
    omega (arith, literals-signs_from m o z w)

-- The same of a list: its sum is the sum of its cubes' literals.
pub literal_sum-literals : (m : ℕ) (xs : List ℕ) → ((i : ℕ) → i < length xs → well_formed m (get_or xs i 0) ≡ true)
    → literal_sum xs ≡ foldr (λ c n. literals c + n) 0 (map (signs m) xs)
unfolding literal_sum
literal_sum-literals m [] w = refl
literal_sum-literals m (x ∷ xs) w =
    ap₂ ◌+◌ (ones_literals m x (w 0 (suc-le-suc zero-le)))
    (literal_sum-literals m xs (λ i h. w (suc i) (suc-le-suc h)))

-- Number 0 is the cube without literals.
none_of_dashes : (m : ℕ) → (ones_of (dashes m) ≡ 0) × (zeros_of (dashes m) ≡ 0)
unfolding ones_of zeros_of dashes is_one is_zero bit
none_of_dashes zero = (refl, refl)
none_of_dashes (suc m) = let h = none_of_dashes m in (omega arith, omega arith)

pub number-dashes : (m : ℕ) → cube_number (dashes m) ≡ 0
unfolding cube_number
number-dashes m = let h = none_of_dashes m in omega arith

signs_from-none : (m : ℕ) → signs_from m 0 0 ≡ dashes m
unfolding signs_from dashes sign_of odd
signs_from-none zero = refl
signs_from-none (suc m) = ap (λ c. dash ∷ c) (signs_from-none m)

pub signs-none : (m : ℕ) → signs m 0 ≡ dashes m
unfolding signs
signs-none m = signs_from-none m

-- Sums that stay at a largest number come to the whole sum, or stay there too.
capped-from : (s : ℕ) (xs : List ℕ) → s ≤ 2 ^ 64 - 1 → fold (λ sum x. min (sum + ones x) (2 ^ 64 - 1)) s xs ≡ min (s + literal_sum xs) (2 ^ 64 - 1)
unfolding literal_sum
capped-from s [] h = omega arith
capped-from s (x ∷ xs) h = omega (arith, capped-from (min (s + ones x) (2 ^ 64 - 1)) xs (omega arith))

pub capped_literals : (xs : List ℕ) → fold (λ sum x. min (sum + ones x) (2 ^ 64 - 1)) 0 xs ≡ min (literal_sum xs) (2 ^ 64 - 1)
capped_literals xs = omega (arith, capped-from 0 xs (omega arith))
