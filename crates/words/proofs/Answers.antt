-- What the answer of a search says: that nothing was found, or which point was; and the checker's conditions as searches.
use mathlib.Core.Path.{◌≡◌, refl, sym, ap, ◌∙◌}
use mathlib.Core.Bool.{Bool, true, false, not}
use mathlib.Core.List.{[]}
use mathlib.Core.Option.{Option, some, none}
use Prim.Native.Nat.{ℕ, zero, suc, ◌+◌, ◌-◌}
use native.Mathlib.Omega.{arith}
use Rattle.std.specs.Prelude.{Option as Answer, Some, None}
use Rattle.std.specs.Option.{is_some}
use lib.Dec.{eqb}
use borrow.Author.Tests.{eq-eqb, ne_eqb, eqb-true}
use Rattle.rule.specs.Func.{Fn, constant, joined, but_not, both, less, always, within}
use Rattle.rule.specs.Point.{Pt, odd, point_number, smallest}
use Rattle.rule.specs.Cube.{cube_fn}
use Rattle.rule.specs.Verdict.{found, is_found}
use Rattle.rule.proofs.Func.{within-less, at-always, always-at}
use Rattle.rule.proofs.Search.{smallest-none, no_smallest}
use Rattle.words.specs.Word.{found_number, cube_of}
use Rattle.words.specs.Contract.{answer_number}
use Rattle.words.proofs.Least.{both_true}
use Rattle.words.proofs.Cubes.{cube-dash}

-- The answer tells whether something was found, and the number of the point that was.
pub answer-none : (o : Option Pt) → found_number o ≡ 0 → o ≡ none
unfolding found_number
answer-none none e = refl
answer-none (some p) e = let z : ⊥ = omega arith in absurd z

pub answer-found : (o : Option Pt) → is_found o ≡ not (eqb (found_number o) 0)
unfolding found_number is_found
answer-found none = refl
answer-found (some p) = sym (ap not (ne_eqb (point_number p + 1) 0 (λ e. let z : ⊥ = omega arith in absurd z)))

pub answer_point : (o : Option Pt) → (found_number o ≡ 0 → ⊥) → point_number (found o []) ≡ found_number o - 1
unfolding found_number found
answer_point none h = absurd (h refl)
answer_point (some p) h = omega arith

pub answer-some : (o : Option Pt) → (found_number o ≡ 0 → ⊥) → o ≡ some (found o [])
unfolding found_number found
answer-some none h = absurd (h refl)
answer-some (some p) h = refl

-- A function is 0 everywhere exactly if nothing is found in it.
pub same_truth : (a b : Bool) → (a ≡ true → b ≡ true) → (b ≡ true → a ≡ true) → a ≡ b
same_truth true true f g = refl
same_truth true false f g = sym (f refl)
same_truth false true f g = g refl
same_truth false false f g = refl

none_is : found_number none ≡ 0
unfolding found_number
none_is = refl

pub always-answer : (m : ℕ) (f : Fn m) → always false m f ≡ eqb (found_number (smallest m f)) 0
always-answer m f =
    same_truth (always false m f) (eqb (found_number (smallest m f)) 0)
    (λ e. eq-eqb (found_number (smallest m f)) 0 (ap found_number (no_smallest m f (λ q w. always-at false m f q e)) ∙ none_is))
    (λ e.
    at-always false m f
    (λ p w. smallest-none m f (answer-none (smallest m f) (eqb-true (found_number (smallest m f)) 0 e)) p))

-- A function lies within another exactly if nothing of it is found outside.
pub within-answer : (m : ℕ) (f g : Fn m) → within m f g ≡ eqb (found_number (smallest m (less m f g))) 0
within-answer m f g = within-less m f g ∙ always-answer m (less m f g)

-- What a function has in common with what is outside another is what it has outside it.
pub both_outside : (m : ℕ) (f g : Fn m) → both m f (less m (constant m true) g) ≡ less m f g
unfolding both less joined but_not constant
both_outside zero f g = refl
both_outside (suc m) f g = λ i. (both_outside m f.0 g.0 i, both_outside m f.1 g.1 i)

-- The cube without literals covers every point, so its search is that of the table.
even : odd 0 ≡ false
unfolding odd
even = refl

empty : cube_of 0 0 0 ≡ true
unfolding cube_fn
empty = refl

pub cube_of_dashes : (m : ℕ) → cube_of m 0 0 ≡ constant m true
unfolding constant
cube_of_dashes zero = empty
cube_of_dashes (suc m) = cube-dash m 0 0 even even ∙ (λ i. (cube_of_dashes m i, cube_of_dashes m i))

pub both-dashes : (m : ℕ) (f : Fn m) → both m (cube_of m 0 0) f ≡ f
both-dashes m f = ap (λ c. both m c f) (cube_of_dashes m) ∙ both_true m f

-- The number that stands for what a search answers is 0 exactly if it answers None.
pub answer-is_none : (o : Answer ℕ) (b : Bool) → is_some o ≡ not b → b ≡ eqb (answer_number o) 0
answer-is_none None true e = refl
answer-is_none None false e = e
answer-is_none (Some p) true e = e ∙ sym (ne_eqb (p + 1) 0 (λ z. let x : ⊥ = omega arith in absurd x))
answer-is_none (Some p) false e = sym (ne_eqb (p + 1) 0 (λ z. let x : ⊥ = omega arith in absurd x))
