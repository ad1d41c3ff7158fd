-- Cubes as signs: which points one covers, what a list covers, and its literals.
use Rattle.std.specs.Prelude.{Bool, true, false, not, ◌&&◌, ◌||◌, List, [], ◌∷◌, ℕ, zero, suc}
use Rattle.rule.specs.Func.{Fn, constant, either}
use Rattle.rule.specs.Point.{Pt, lead, rest}

-- What a cube says of a column: that it must be 0, that it must be 1, or nothing.
pub data Sign : Type 0 where
  sign0 sign1 dash : Sign

-- A cube: its signs, leftmost column first. Signs past the last column are not read, and missing ones are dashes.
abbrev pub Cube : Type 0
Cube = List Sign

-- The sign of the first column, and the signs of the columns after it.
unfoldable pub lead_sign : Cube → Sign
lead_sign [] = dash
lead_sign (s ∷ c) = s

unfoldable pub rest_signs : Cube → Cube
rest_signs [] = []
rest_signs (s ∷ c) = c

-- Whether a sign permits a digit.
unfoldable pub permits : Sign → Bool → Bool
permits sign0 b = not b
permits sign1 b = b
permits dash b = true

-- Whether a cube of m columns covers a point: each sign permits its column's digit.
unfoldable pub covers : ℕ → Cube → Pt → Bool
covers zero c p = true
covers (suc m) c p = permits (lead_sign c) (lead p) && covers m (rest_signs c) (rest p)

-- Whether some cube of a list covers a point.
unfoldable pub covers_any : ℕ → List Cube → Pt → Bool
covers_any m [] p = false
covers_any m (c ∷ cs) p = covers m c p || covers_any m cs p

-- A function of the later columns where a sign permits the first column's digit, and another where it does not.
unfoldable pub under : {A : Type 0} → Sign → A → A → A × A
under sign0 f g = (f, g)
under sign1 f g = (g, f)
under dash f g = (f, f)

-- The function that a cube covers.
unfoldable pub cube_fn : (m : ℕ) → Cube → Fn m
cube_fn zero c = true
cube_fn (suc m) c = under (lead_sign c) (cube_fn m (rest_signs c)) (constant m false)

-- The function that a list covers.
unfoldable pub covered : (m : ℕ) → List Cube → Fn m
covered m [] = constant m false
covered m (c ∷ cs) = either m (cube_fn m c) (covered m cs)

-- The cube of m columns without literals.
unfoldable pub dashes : ℕ → Cube
dashes zero = []
dashes (suc m) = dash ∷ dashes m

-- Whether a sign is a literal.
unfoldable pub is_literal : Sign → Bool
is_literal sign0 = true
is_literal sign1 = true
is_literal dash = false

-- One more than a number where a test holds, else that number.
unfoldable pub count_if : Bool → ℕ → ℕ
count_if true n = suc n
count_if false n = n

-- The number of a cube's literals: its signs that are not a dash.
unfoldable pub literals : Cube → ℕ
literals [] = 0
literals (s ∷ c) = count_if (is_literal s) (literals c)

-- Whether a cube has a literal in column k.
unfoldable pub has_literal : Cube → ℕ → Bool
has_literal [] k = false
has_literal (s ∷ c) zero = is_literal s
has_literal (s ∷ c) (suc k) = has_literal c k

-- A cube with a dash in column k: what is left when the literal there goes.
unfoldable pub without_literal : Cube → ℕ → Cube
without_literal [] k = []
without_literal (s ∷ c) zero = dash ∷ c
without_literal (s ∷ c) (suc k) = s ∷ without_literal c k

-- The cube at position i of a list, from 0, and the list with the cube at that position removed.
unfoldable pub cube_at : List Cube → ℕ → Cube
cube_at [] i = []
cube_at (c ∷ cs) zero = c
cube_at (c ∷ cs) (suc i) = cube_at cs i

unfoldable pub without : List Cube → ℕ → List Cube
without [] i = []
without (c ∷ cs) zero = cs
without (c ∷ cs) (suc i) = c ∷ without cs i
