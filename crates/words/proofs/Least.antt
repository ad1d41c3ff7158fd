-- Laws of the search for the smallest point: through the halves of a function, as the numbers that the code answers; and
-- functions joined with a constant.
use mathlib.Core.Path.{◌≡◌, refl, ap, ◌∙◌}
use mathlib.Core.Bool.{true, false}
use mathlib.Core.Option.{Option, some, none}
use Prim.Native.Nat.{ℕ, zero, suc, ◌-◌, ◌*◌}
use native.Mathlib.Omega.{arith}
use Rattle.rule.specs.Func.{Fn, constant, joined, both, either}
use Rattle.rule.specs.Point.{Pt, bit, point_number, or_else, after, smallest}
use Rattle.rule.proofs.Bools.{or_none}
use Rattle.words.specs.Word.{found_number}

-- A number found in the half for 0, and one found in the half for 1, as numbers of the whole.
found-low : (o : Option Pt) → found_number (after false o) ≡ 2 * found_number o - 1
unfolding found_number after point_number bit
found-low none = refl
found-low (some p) = omega arith

found-high : (o : Option Pt) → found_number (after true o) ≡ 2 * found_number o
unfolding found_number after point_number bit
found-high none = refl
found-high (some p) = omega arith

-- Nothing in the half for 0: what the half for 1 has. Something: that.
or_else_none : (a b : Option Pt) → found_number a ≡ 0 → found_number (or_else (after false a) b) ≡ found_number b
unfolding found_number or_else after
or_else_none none b e = refl
or_else_none (some p) b e = let z : ⊥ = omega arith in absurd z

or_else_some : (a b : Option Pt) → (found_number a ≡ 0 → ⊥) → found_number (or_else (after false a) b) ≡ found_number (after false a)
unfolding found_number or_else after
or_else_some none b h = absurd (h refl)
or_else_some (some p) b h = refl

module _ (m : ℕ) (f : Fn (suc m)) where
  pub found_in_high : found_number (smallest m f.0) ≡ 0 → found_number (smallest (suc m) f) ≡ 2 * found_number (smallest m f.1)
  unfolding smallest
  found_in_high e =
      or_else_none (smallest m f.0) (after true (smallest m f.1)) e ∙ found-high (smallest m f.1)

  pub found_in_low : (found_number (smallest m f.0) ≡ 0 → ⊥) → found_number (smallest (suc m) f) ≡ 2 * found_number (smallest m f.0) - 1
  unfolding smallest
  found_in_low h =
      or_else_some (smallest m f.0) (after true (smallest m f.1)) h ∙ found-low (smallest m f.0)

-- The constant 0 has no point.
pub none_found : (m : ℕ) → found_number (smallest m (constant m false)) ≡ 0
unfolding smallest constant found_number
none_found zero = refl
none_found (suc m) =
    found_in_high m (constant (suc m) false) (none_found m) ∙ ap (λ n. 2 * n) (none_found m)

-- Functions joined with the constant 0.
pub both_false : (m : ℕ) (f : Fn m) → both m (constant m false) f ≡ constant m false
unfolding both joined constant
both_false zero f = refl
both_false (suc m) f = λ i. (both_false m f.0 i, both_false m f.1 i)

pub either-none : (m : ℕ) (f : Fn m) → either m f (constant m false) ≡ f
unfolding either joined constant
either-none zero f = or_none f
either-none (suc m) f = λ i. (either-none m f.0 i, either-none m f.1 i)

pub either_false : (m : ℕ) (f : Fn m) → either m (constant m false) f ≡ f
unfolding either joined constant
either_false zero f = refl
either_false (suc m) f = λ i. (either_false m f.0 i, either_false m f.1 i)

pub both_true : (m : ℕ) (f : Fn m) → both m (constant m true) f ≡ f
unfolding both joined constant
both_true zero f = refl
both_true (suc m) f = λ i. (both_true m f.0 i, both_true m f.1 i)
