-- The 32-bit number of a cube: bit k says that column k must be 1, bit 16 + k that it must be 0.
use Rattle.std.specs.Prelude.{Bool, true, false, cond, not, ◌&&◌, List, [], ◌∷◌, ℕ, zero, suc, ◌+◌, ◌*◌, ◌/◌, ◌%◌, eqb}
use Rattle.std.specs.Int.Count.{ones}
use Rattle.rule.specs.Point.{bit, odd}
use Rattle.rule.specs.Cube.{Sign, sign0, sign1, dash, Cube}

-- The columns that must be 1 as a number with bit k for column k, and likewise those that must be 0.
unfoldable pub is_one : Sign → Bool
is_one sign0 = false
is_one sign1 = true
is_one dash = false

unfoldable pub is_zero : Sign → Bool
is_zero sign0 = true
is_zero sign1 = false
is_zero dash = false

unfoldable pub ones_of : Cube → ℕ
ones_of [] = 0
ones_of (s ∷ c) = bit (is_one s) + 2 * ones_of c

unfoldable pub zeros_of : Cube → ℕ
zeros_of [] = 0
zeros_of (s ∷ c) = bit (is_zero s) + 2 * zeros_of c

-- The number of a cube of at most 16 columns.
unfoldable pub cube_number : Cube → ℕ
cube_number c = ones_of c + 65536 * zeros_of c

-- The sign of a column, given its bit for 1 and its bit for 0. Both together are malformed.
unfoldable pub sign_of : Bool → Bool → Sign
sign_of true z = sign1
sign_of false true = sign0
sign_of false false = dash

-- The signs of m columns, given the numbers of the columns that must be 1 and of those that must be 0.
unfoldable pub signs_from : ℕ → ℕ → ℕ → Cube
signs_from zero o z = []
signs_from (suc m) o z = sign_of (odd o) (odd z) ∷ signs_from m (o / 2) (z / 2)

-- The signs of a cube of m columns, given its number.
unfoldable pub signs : ℕ → ℕ → Cube
signs m x = signs_from m (x % 65536) (x / 65536)

-- No column below m has both bits, and no column from m on has one.
unfoldable pub apart : ℕ → ℕ → ℕ → Bool
apart zero o z = eqb o 0 && eqb z 0
apart (suc m) o z = not (odd o && odd z) && apart m (o / 2) (z / 2)

-- Whether a number is a well-formed cube of m columns.
unfoldable pub well_formed : ℕ → ℕ → Bool
well_formed m x = apart m (x % 65536) (x / 65536)

-- The position of the first malformed cube of a list, its first cube being k; 0 without one.
unfoldable pub malformed_from : ℕ → ℕ → List ℕ → ℕ
malformed_from m k [] = 0
malformed_from m k (x ∷ xs) = cond (well_formed m x) (malformed_from m (k + 1) xs) k

-- The same from 1.
unfoldable pub first_malformed : ℕ → List ℕ → ℕ
first_malformed m xs = malformed_from m 1 xs

-- Whether the columns of a point agree with the bits of a cube number: those that must be 1 are, those that must be 0 are.
unfoldable pub agree : ℕ → ℕ → ℕ → ℕ → Bool
agree zero o z p = true
agree (suc m) o z p = not (odd o && not (odd p)) && not (odd z && odd p) && agree m (o / 2) (z / 2) (p / 2)

-- Whether the cube with a number covers the point with a number, over all 16 columns.
unfoldable pub number_covers : ℕ → ℕ → Bool
number_covers x p = agree 16 (x % 65536) (x / 65536) p

-- The literals of a list of cube numbers: the sum of the counts of their set bits.
unfoldable pub literal_sum : List ℕ → ℕ
literal_sum [] = 0
literal_sum (x ∷ xs) = ones x + literal_sum xs
