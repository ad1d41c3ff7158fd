-- Truth tables on words: a word is the number computed from a function of at most six columns, 64 points to a word, and a
-- table is the list of words computed from a function. The half for 0 in the first column comes first, in the lower bits
-- of a word and in the earlier words of a table, so the order of points is the order of words and of bits.
use Rattle.std.specs.Prelude.{Bool, true, cond, not, ◌&&◌, List, [], ◌∷◌, ◌++◌, ℕ, zero, suc, ◌+◌, ◌-◌, ◌*◌, ◌/◌, ◌^◌, ltb}
use Rattle.std.proofs.Math.Option.{Option, some, none}
use Rattle.rule.specs.Func.{Fn}
use Rattle.rule.specs.Point.{Pt, bit, odd, point_number}
use Rattle.rule.specs.Cube.{cube_fn}
use Rattle.rule.specs.Number.{signs_from}

-- The word of a function: one bit for each point, the half for 1 above the half for 0.
unfoldable pub num : (m : ℕ) → Fn m → ℕ
num zero f = bit f
num (suc m) f = num m f.1 * 2 ^ (2 ^ m) + num m f.0

-- The table of a function: one word up to six columns, else the words of the half for 0, then those of the half for 1.
unfoldable pub words : (m : ℕ) → Fn m → List ℕ
words zero f = num zero f ∷ []
words (suc m) f = cond (ltb m 6) (num (suc m) f ∷ []) (words m f.0 ++ words m f.1)

-- The number of words of a table: 1 up to six columns.
unfoldable pub size : ℕ → ℕ
size m = 2 ^ (m - 6)

-- The function of a cube that is given by its two halves: the columns that must be 1, and those that must be 0.
abbrev pub cube_of : (m : ℕ) → ℕ → ℕ → Fn m
cube_of m o z = cube_fn m (signs_from m o z)

-- What a search answers: 0 where nothing was found, else the point's number and 1.
unfoldable pub found_number : Option Pt → ℕ
found_number none = 0
found_number (some p) = point_number p + 1

-- Whether the columns before the last six are all dashes; then every word of the cube's table is the same.
unfoldable pub plain : ℕ → ℕ → ℕ → Bool
plain zero o z = true
plain (suc m) o z = cond (ltb m 6) true ((not (odd o) && not (odd z)) && plain m (o / 2) (z / 2))

-- The word of the last six columns of a cube, or of all its columns where they are fewer.
unfoldable pub leaf : ℕ → ℕ → ℕ → ℕ
leaf zero o z = num zero (cube_of zero o z)
leaf (suc m) o z = cond (ltb m 6) (num (suc m) (cube_of (suc m) o z)) (leaf m (o / 2) (z / 2))

-- Two lists of words joined word by word.
unfoldable pub wordwise : (ℕ → ℕ → ℕ) → List ℕ → List ℕ → List ℕ
wordwise op [] ys = []
wordwise op (x ∷ xs) [] = []
wordwise op (x ∷ xs) (y ∷ ys) = op x y ∷ wordwise op xs ys

-- The number and 1 of a point in a table of 6 + d columns, by the place of its word and its number and 1 there: the first column
-- tells the half of the table.
unfoldable pub placed : ℕ → ℕ → ℕ → ℕ
placed zero i r = r
placed (suc d) i r = cond (ltb i (2 ^ d)) (2 * placed d i r - 1) (2 * placed d (i - 2 ^ d) r)
