-- The list rule (document 01, after source 002, section 4): the list for a lower root L and an upper root U, L within U.
use Rattle.std.specs.Prelude.{Bool, true, false, ◌&&◌, List, [], ◌∷◌, ◌++◌, map, ℕ, zero, suc}
use Rattle.rule.specs.Func.{Fn, both, either, less, always, same}
use Rattle.rule.specs.Cube.{sign0, sign1, dash, Sign, Cube, covered, dashes}
use Rattle.rule.specs.Number.{cube_number}

-- The three steps in their order: L is 0: nothing. Otherwise, U is 1: what step 2 gives. Otherwise: what step 3 gives.
unfoldable pub steps : {A : Type 0} → Bool → Bool → List A → (Unit {0} → List A) → List A
steps true u two three = []
steps false true two three = two
steps false false two three = three tt

-- A sign put before every cube of a list.
unfoldable pub put : Sign → List Cube → List Cube
put s cs = map (λ c. s ∷ c) cs

-- Step 3 on the first column, given the list for every two roots of the columns after it.
module _ (m : ℕ) (list : Fn m → Fn m → List Cube) (L U : Fn (suc m)) where
  -- P0 = L0 less U1, P1 = L1 less U0.
  unfoldable pub p0_of : Fn m
  p0_of = less m L.0 U.1

  unfoldable pub p1_of : Fn m
  p1_of = less m L.1 U.0

  -- List A for (P0, U0), covering G0. List B for (P1, U1), covering G1.
  unfoldable pub list_a : List Cube
  list_a = list p0_of U.0

  unfoldable pub list_b : List Cube
  list_b = list p1_of U.1

  unfoldable pub g0_of : Fn m
  g0_of = covered m list_a

  unfoldable pub g1_of : Fn m
  g1_of = covered m list_b

  -- R0 = L0 less G0, R1 = L1 less G1.
  unfoldable pub r0_of : Fn m
  r0_of = less m L.0 g0_of

  unfoldable pub r1_of : Fn m
  r1_of = less m L.1 g1_of

  -- List C for (R0 or R1, U0 and U1), covering G*.
  unfoldable pub r0_or_r1 : Fn m
  r0_or_r1 = either m r0_of r1_of

  unfoldable pub u0_and_u1 : Fn m
  u0_and_u1 = both m U.0 U.1

  unfoldable pub list_c : List Cube
  list_c = list r0_or_r1 u0_and_u1

  unfoldable pub g_star : Fn m
  g_star = covered m list_c

  -- Result: A with 0 in the column, then B with 1 in the column, then C. Its cover is G.
  unfoldable pub result : List Cube
  result = put sign0 list_a ++ put sign1 list_b ++ put dash list_c

  unfoldable pub g_of : Fn (suc m)
  g_of = covered (suc m) result

-- The list of the rule. Every column is expanded; where no column is left, steps 1 and 2 decide for L within U.
unfoldable pub list_of : (m : ℕ) → Fn m → Fn m → List Cube
list_of zero L U = steps (always false zero L) (always true zero U) (dashes zero ∷ []) (λ u. [])
list_of (suc m) L U =
    steps (always false (suc m) L) (always true (suc m) U) (dashes (suc m) ∷ []) (λ u. result m (list_of m) L U)

-- The list as cube numbers.
unfoldable pub list_numbers : (m : ℕ) → Fn m → Fn m → List ℕ
list_numbers m L U = map cube_number (list_of m L U)

-- Whether neither root depends on the first column.
unfoldable pub idle : (m : ℕ) → Fn (suc m) → Fn (suc m) → Bool
idle m L U = same m L.0 L.1 && same m U.0 U.1

-- A column on which neither root depends is left out; any other is expanded.
unfoldable pub leave_out : {A : Type 0} → Bool → (Unit {0} → List A) → (Unit {0} → List A) → List A
leave_out true skip expand = skip tt
leave_out false skip expand = expand tt

-- The same list by the words of step 3: the leftmost column on which L or U depends is the one taken.
unfoldable pub leftmost : (m : ℕ) → Fn m → Fn m → List Cube
leftmost zero L U = steps (always false zero L) (always true zero U) (dashes zero ∷ []) (λ u. [])
leftmost (suc m) L U =
    steps (always false (suc m) L) (always true (suc m) U) (dashes (suc m) ∷ [])
    (λ u. leave_out (idle m L U) (λ v. put dash (leftmost m L.0 U.0)) (λ v. result m (leftmost m) L U))
