-- Functions joined with themselves, with a constant, and with a function around them, and which lie within a joined one.
use mathlib.Core.Path.{◌≡◌, sym, ap, ap₂, ◌∙◌}
use mathlib.Core.Bool.{Bool, true, false, not, ◌&&◌, ◌||◌, and-true, and_self, or_self}
use Prim.Native.Nat.{ℕ, zero, suc}
use Rattle.rule.specs.Func.{Fn, constant, joined, but_not, both, either, less, always, within}
use Rattle.rule.specs.Point.{at}
use Rattle.rule.proofs.Bools.{and_false_r, or_none, or_left, apart-table}
use Rattle.rule.proofs.Func.{at_constant, at_both, at-either, at_less, always-at, at-always, within-less, at-within, ext}

-- The function that is b at every point is the constant.
pub always-constant : (b : Bool) (m : ℕ) (f : Fn m) → always b m f ≡ true → f ≡ constant m b
always-constant b m f e = ext m f (constant m b) (λ p w. always-at b m f p e ∙ sym (at_constant m b p))

pub constant-always : (b : Bool) (m : ℕ) → always b m (constant m b) ≡ true
constant-always b m = at-always b m (constant m b) (λ p w. at_constant m b p)

-- A function less one around it is 0.
pub less_around : (m : ℕ) (f g : Fn m) → within m f g ≡ true → less m f g ≡ constant m false
less_around m f g w = always-constant false m (less m f g) (sym (within-less m f g) ∙ w)

-- A function less 0 is that function.
pub less_none : (m : ℕ) (f : Fn m) → less m f (constant m false) ≡ f
less_none m f =
    ext m (less m f (constant m false)) f
    (λ p w. at_less m f (constant m false) p ∙ ap (λ b. at m f p && not b) (at_constant m false p) ∙ and-true (at m f p))

-- A function or itself, and a function and itself, are that function.
pub either_itself : (m : ℕ) (f : Fn m) → either m f f ≡ f
either_itself m f = ext m (either m f f) f (λ p w. at-either m f f p ∙ or_self (at m f p))

pub both_itself : (m : ℕ) (f : Fn m) → both m f f ≡ f
both_itself m f = ext m (both m f f) f (λ p w. at_both m f f p ∙ and_self (at m f p))

-- A function or 0 is that function; a function and 0 are 0.
pub either-none : (m : ℕ) (f : Fn m) → either m f (constant m false) ≡ f
either-none m f =
    ext m (either m f (constant m false)) f
    (λ p w. at-either m f (constant m false) p ∙ ap (λ b. at m f p || b) (at_constant m false p) ∙ or_none (at m f p))

pub both-none : (m : ℕ) (f : Fn m) → both m f (constant m false) ≡ constant m false
both-none m f =
    ext m (both m f (constant m false)) (constant m false)
    (λ p w. rw (at_both, at_constant) (and_false_r (at m f p)))

-- A function lies within itself, and within itself or another.
pub within_itself : (m : ℕ) (f : Fn m) → within m f f ≡ true
within_itself m f = at-within m f f (λ p w t. t)

pub within-either : (m : ℕ) (f g : Fn m) → within m f (either m f g) ≡ true
within-either m f g = at-within m f (either m f g) (λ p w t. at-either m f g p ∙ or_left (at m f p) (at m g p) t)

-- A function lies within all that another is not exactly if at no point both are 1.
pub within-apart : (m : ℕ) (f g : Fn m) → within m f (less m (constant m true) g) ≡ always false m (both m f g)
unfolding within always less both joined but_not constant
within-apart zero f g = apart-table f g
within-apart (suc m) f g = ap₂ ◌&&◌ (within-apart m f.0 g.0) (within-apart m f.1 g.1)
