-- The verdict on any list of well-formed cubes: the first fault in document 01's order, or accept.
use Rattle.std.specs.Prelude.{Bool, true, false, cond, not, ◌&&◌, List, [], ◌∷◌, map, ℕ, zero, suc, ◌+◌, length}
use Rattle.std.proofs.Math.Option.{Option, some, none}
use Rattle.rule.specs.Func.{Fn, less, within}
use Rattle.rule.specs.Point.{Pt, point_number, smallest}
use Rattle.rule.specs.Cube.{Cube, cube_fn, covered, has_literal, without_literal, cube_at, without}
use Rattle.rule.specs.Number.{signs}

-- What the checker says. Cubes are named from 1, columns from 0, points by their numbers.
pub data Verdict : Type 0 where
  accept : Verdict
  -- a cube covers an off point: the cube, the point
  off : ℕ → ℕ → Verdict
  -- an on point is not covered: the point
  missing : ℕ → Verdict
  -- a literal can go: the cube, the column
  literal : ℕ → ℕ → Verdict
  -- a cube can go: the cube
  cube : ℕ → Verdict

-- One more than the number that was found, if one was.
unfoldable pub next : Option ℕ → Option ℕ
next (some k) = some (suc k)
next none = none

-- The first number below n that passes a test.
unfoldable pub first : (ℕ → Bool) → ℕ → Option ℕ
first test zero = none
first test (suc n) = cond (test 0) (some 0) (next (first (λ k. test (suc k)) n))

-- What was found, or something else where nothing was.
unfoldable pub found : {A : Type 0} → Option A → A → A
found (some x) y = x
found none y = y

unfoldable pub is_found : {A : Type 0} → Option A → Bool
is_found (some x) = true
is_found none = false

-- A fault made of what was found.
unfoldable pub fault : {A : Type 0} → (A → Verdict) → Option A → Option Verdict
fault f (some x) = some (f x)
fault f none = none

module _ (m : ℕ) (L U : Fn m) (cs : List Cube) where
  -- (a) The first cube covering an off point, with the smallest such point.
  unfoldable pub covers_off : ℕ → Bool
  covers_off i = not (within m (cube_fn m (cube_at cs i)) U)

  unfoldable pub off_point : ℕ → Pt
  off_point i = found (smallest m (less m (cube_fn m (cube_at cs i)) U)) []

  unfoldable pub fault_a : Option Verdict
  fault_a = fault (λ i. off (i + 1) (point_number (off_point i))) (first covers_off (length cs))

  -- (b) The smallest on point not covered.
  unfoldable pub fault_b : Option Verdict
  fault_b = fault (λ p. missing (point_number p)) (smallest m (less m L (covered m cs)))

  -- (c) The first cube, and in it the leftmost column, whose literal can go without covering an off point.
  unfoldable pub can_go : ℕ → ℕ → Bool
  can_go i k = has_literal (cube_at cs i) k && within m (cube_fn m (without_literal (cube_at cs i) k)) U

  unfoldable pub goes : ℕ → Bool
  goes i = is_found (first (can_go i) m)

  unfoldable pub fault_c : Option Verdict
  fault_c = fault (λ i. literal (i + 1) (found (first (can_go i) m) 0)) (first goes (length cs))

  -- (d) The first cube whose removal leaves no on point bare.
  unfoldable pub spare : ℕ → Bool
  spare i = within m L (covered m (without cs i))

  unfoldable pub fault_d : Option Verdict
  fault_d = fault (λ i. cube (i + 1)) (first spare (length cs))

-- The first fault wins.
unfoldable pub first_fault : List (Option Verdict) → Verdict
first_fault [] = accept
first_fault (some v ∷ vs) = v
first_fault (none ∷ vs) = first_fault vs

unfoldable pub verdict : (m : ℕ) → Fn m → Fn m → List Cube → Verdict
verdict m L U cs =
    first_fault (fault_a m L U cs ∷ fault_b m L U cs ∷ fault_c m L U cs ∷ fault_d m L U cs ∷ [])

-- The verdict on a list of cube numbers.
unfoldable pub verdict_numbers : (m : ℕ) → Fn m → Fn m → List ℕ → Verdict
verdict_numbers m L U xs = verdict m L U (map (signs m) xs)
