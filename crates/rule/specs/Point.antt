-- Points: their digits, their numbers, the value of a function at one, and which of two is the smaller.
use Rattle.std.specs.Prelude.{Bool, true, false, cond, List, [], ◌∷◌, ℕ, zero, suc, ◌+◌, ◌*◌, ◌^◌, ◌/◌, ◌%◌, eqb, length}
use Rattle.std.proofs.Math.Option.{Option, some, none}
use Rattle.rule.specs.Func.{Fn, half}

-- A point of m columns: its digits, leftmost column first. Digits past the last column are not read, and missing ones are 0.
abbrev pub Pt : Type 0
Pt = List Bool

-- The digit of the first column, and the digits of the columns after it.
unfoldable pub lead : Pt → Bool
lead [] = false
lead (b ∷ p) = b

unfoldable pub rest : Pt → Pt
rest [] = []
rest (b ∷ p) = p

-- The value of a function at a point.
unfoldable pub at : (m : ℕ) → Fn m → Pt → Bool
at zero f p = f
at (suc m) f p = at m (half (lead p) f) (rest p)

-- A digit as a number.
unfoldable pub bit : Bool → ℕ
bit false = 0
bit true = 1

-- Whether the lowest bit of a number is set.
unfoldable pub odd : ℕ → Bool
odd x = eqb (x % 2) 1

-- The number of a point: bit k for column k.
unfoldable pub point_number : Pt → ℕ
point_number [] = 0
point_number (b ∷ p) = bit b + 2 * point_number p

-- The digits of a point of m columns, given its number.
unfoldable pub digits : ℕ → ℕ → Pt
digits zero x = []
digits (suc m) x = odd x ∷ digits m (x / 2)

-- A point's columns read left to right as binary digits, leftmost heaviest. The smaller of two points is the one whose
-- reading is the smaller; this is not the order of their numbers.
unfoldable pub reading : Pt → ℕ
reading [] = 0
reading (b ∷ p) = bit b * 2 ^ length p + reading p

-- The first of two finds that is one.
unfoldable pub or_else : {A : Type 0} → Option A → Option A → Option A
or_else (some x) y = some x
or_else none y = y

-- A point found among the later columns, with a digit put before it.
unfoldable pub after : Bool → Option Pt → Option Pt
after b (some p) = some (b ∷ p)
after b none = none

-- The smallest point at which a function is 1, if there is one.
unfoldable pub smallest : (m : ℕ) → Fn m → Option Pt
smallest zero f = cond f (some []) none
smallest (suc m) f = or_else (after false (smallest m f.0)) (after true (smallest m f.1))
