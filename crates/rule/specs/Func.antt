-- Functions of columns: what they are, what can be done with them, and the tests on them. A function of m columns is
-- a type by recursion on m, so that equal functions are equal values and every definition below computes.
use Rattle.std.specs.Prelude.{Bool, true, false, not, ◌&&◌, ◌||◌, ℕ, zero, suc}
use Rattle.std.specs.Bool.{beq}

-- A function of m columns: a truth value where no column is left, else its halves, for 0 and for 1 in the first column.
abbrev pub Fn : ℕ → Type 0
Fn zero = Bool
Fn (suc m) = Fn m × Fn m

-- The half for a digit of the first column: false stands for 0, true for 1.
unfoldable pub half : {A : Type 0} → Bool → A × A → A
half false f = f.0
half true f = f.1

-- The function that is b everywhere.
unfoldable pub constant : (m : ℕ) → Bool → Fn m
constant zero b = b
constant (suc m) b = (constant m b, constant m b)

-- Two functions joined point by point by an operation on truth values.
unfoldable pub joined : (Bool → Bool → Bool) → (m : ℕ) → Fn m → Fn m → Fn m
joined op zero f g = op f g
joined op (suc m) f g = (joined op m f.0 g.0, joined op m f.1 g.1)

-- First and not second.
unfoldable pub but_not : Bool → Bool → Bool
but_not a b = a && not b

-- Both functions, either function, and the first less the second.
unfoldable pub both : (m : ℕ) → Fn m → Fn m → Fn m
both m f g = joined ◌&&◌ m f g

unfoldable pub either : (m : ℕ) → Fn m → Fn m → Fn m
either m f g = joined ◌||◌ m f g

unfoldable pub less : (m : ℕ) → Fn m → Fn m → Fn m
less m f g = joined but_not m f g

-- Whether a function is b at every point.
unfoldable pub always : Bool → (m : ℕ) → Fn m → Bool
always b zero f = beq f b
always b (suc m) f = always b m f.0 && always b m f.1

-- Whether two functions are equal.
unfoldable pub same : (m : ℕ) → Fn m → Fn m → Bool
same zero f g = beq f g
same (suc m) f g = same m f.0 g.0 && same m f.1 g.1

-- Whether one function lies within another: it is 1 only where the other is.
unfoldable pub within : (m : ℕ) → Fn m → Fn m → Bool
within zero f g = not f || g
within (suc m) f g = within m f.0 g.0 && within m f.1 g.1
