-- What the checker asks of tables besides the rule's words: what a list covers twice, and a cube with one literal turned over.
use Rattle.std.specs.Prelude.{false, List, [], ◌∷◌, ℕ, zero, suc}
use Rattle.rule.specs.Func.{Fn, constant, both, either}
use Rattle.rule.specs.Cube.{Sign, sign0, sign1, dash, Cube, cube_fn, covered}

-- The function that two or more cubes of a list cover.
unfoldable pub covered_twice : (m : ℕ) → List Cube → Fn m
covered_twice m [] = constant m false
covered_twice m (c ∷ cs) = either m (covered_twice m cs) (both m (cube_fn m c) (covered m cs))

-- A sign that asks the other digit.
unfoldable pub turned_sign : Sign → Sign
turned_sign sign0 = sign1
turned_sign sign1 = sign0
turned_sign dash = dash

-- A cube with the sign of column k turned over.
unfoldable pub turned : Cube → ℕ → Cube
turned [] k = []
turned (s ∷ c) zero = turned_sign s ∷ c
turned (s ∷ c) (suc k) = s ∷ turned c k
