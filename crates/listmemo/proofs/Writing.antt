-- What is written: the numbers of cubes under literals chosen before them, stores one after the other, and how long a
-- list can be.
use mathlib.Core.Path.{◌≡◌, refl, ap, ◌∙◌, subst⁻¹}
use mathlib.Core.List.{List, [], ◌∷◌, ◌++◌}
use Prim.Native.Nat.{ℕ, zero, suc, ◌+◌, ◌*◌, ◌^◌, ◌≤◌}
use native.Mathlib.Nat.{mul-add, mul_assoc, mul_left_comm, one-le-pow, pow-succ'}
use native.Mathlib.Omega.{arith}
use lib.ListN.{length, set, length-append, length-map}
use lib.Seq.{sets}
use Rattle.std.proofs.lemmas.List.{map-append}
use Rattle.rule.specs.Func.{Fn}
use Rattle.rule.specs.Point.{bit}
use Rattle.rule.specs.Cube.{Sign, sign0, sign1, dash, Cube}
use Rattle.rule.specs.Number.{ones_of, zeros_of, cube_number, is_one, is_zero}
use Rattle.rule.specs.Rule.{put, list_a, list_b, list_c, result, list_of}
use Rattle.rule.proofs.Steps.{by_step, list_step3, list_end}
use Rattle.listmemo.specs.Copy.{numbers_under}

-- The number of a sign in column 0.
unfoldable pub sign_number : Sign → ℕ
sign_number sign0 = 65536
sign_number sign1 = 1
sign_number dash = 0

pub cube-step : (s : Sign) (c : Cube) → cube_number (s ∷ c) ≡ sign_number s + 2 * cube_number c
unfolding cube_number ones_of zeros_of is_one is_zero bit sign_number
cube-step sign0 c = omega arith
cube-step sign1 c = omega arith
cube-step dash c = omega arith

weigh : (chosen : ℕ) (w : ℕ) (a : ℕ) (x : ℕ) → chosen + w * (a + 2 * x) ≡ chosen + w * a + 2 * w * x
weigh chosen w a x = omega (arith, mul-add w a (2 * x), mul_left_comm w 2 x, mul_assoc 2 w x)

-- A sign put before cubes is a literal chosen before them.
pub under_sign : (chosen : ℕ) (w : ℕ) (s : Sign) (cs : List Cube) → numbers_under chosen w (put s cs) ≡ numbers_under (chosen + w * sign_number s) (2 * w) cs
unfolding numbers_under put
under_sign chosen w s [] = refl
under_sign chosen w s (c ∷ cs) =
    λ i. (ap (λ x. chosen + w * x) (cube-step s c) ∙ weigh chosen w (sign_number s) (cube_number c)) i ∷ under_sign chosen w s cs i

pub under_append : (chosen : ℕ) (w : ℕ) (xs : List Cube) (ys : List Cube) → numbers_under chosen w (xs ++ ys) ≡ numbers_under chosen w xs ++ numbers_under chosen w ys
unfolding numbers_under
under_append chosen w xs ys = map-append (λ c. chosen + w * cube_number c) xs ys

pub under-length : (chosen : ℕ) (w : ℕ) (cs : List Cube) → length (numbers_under chosen w cs) ≡ length cs
unfolding numbers_under
under-length chosen w cs = length-map cs (λ c. chosen + w * cube_number c)

-- Stores of a list and then of another from where it ended.
pub sets_append : (s : List ℕ) (i : ℕ) (xs : List ℕ) (ys : List ℕ) → sets (sets s i xs) (i + length xs) ys ≡ sets s i (xs ++ ys)
sets_append s i [] ys = ap (λ j. sets s j ys) (omega arith)
sets_append s i (x ∷ xs) ys = ap (λ j. sets (sets (set s i x) (suc i) xs) j ys) (omega arith) ∙ sets_append (set s i x) (suc i) xs ys

pub put-length : (s : Sign) (cs : List Cube) → length (put s cs) ≡ length cs
unfolding put
put-length s cs = length-map cs (λ c. s ∷ c)

pub result-length : (m : ℕ) (list : Fn m → Fn m → List Cube) (L : Fn (suc m)) (U : Fn (suc m)) → length (result m list L U) ≡ length (list_a m list L U) + length (list_b m list L U) + length (list_c m list L U)
unfolding result
result-length m list L U =
    omega (
      arith,
      length-append (put sign0 (list_a m list L U) ++ put sign1 (list_b m list L U)) (put dash (list_c m list L U)),
      length-append (put sign0 (list_a m list L U)) (put sign1 (list_b m list L U)),
      put-length sign0 (list_a m list L U),
      put-length sign1 (list_b m list L U),
      put-length dash (list_c m list L U),
    )

-- A list has at most 3 to the columns cubes.
pub list-bound : (m : ℕ) (L : Fn m) (U : Fn m) → length (list_of m L U) ≤ 3 ^ m
unfolding list_a list_b list_c
list-bound zero L U =
    by_step (λ cs. length cs ≤ 1) zero L U (λ e. omega arith) (λ e e'. omega arith)
    (λ e e'. subst⁻¹ (λ cs. length cs ≤ 1) (list_end L U e e') (omega arith))
list-bound (suc m) L U =
    by_step (λ cs. length cs ≤ 3 ^ suc m) (suc m) L U (λ e. omega arith) (λ e e'. one-le-pow (suc m) 3 (omega arith))
    (λ e e'.
    subst⁻¹ (λ cs. length cs ≤ 3 ^ suc m) (list_step3 m L U e e')
    (parts (list-bound m _ _) (list-bound m _ _) (list-bound m _ _)))
  where
    parts : length (list_a m (list_of m) L U) ≤ 3 ^ m → length (list_b m (list_of m) L U) ≤ 3 ^ m → length (list_c m (list_of m) L U) ≤ 3 ^ m → length (result m (list_of m) L U) ≤ 3 ^ suc m
    parts a b c = omega (arith, result-length m (list_of m) L U, pow-succ' 3 m)
