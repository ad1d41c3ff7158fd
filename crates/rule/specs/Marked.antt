-- The marked cases of document 01 as one table, the cases that notice its errors that look right as another, and the one
-- test over each.
use Rattle.std.specs.Prelude.{Bool, true, false, ◌&&◌, List, [], ◌∷◌, ◌++◌, map, ℕ, eqb}
use Prim.Native.String.{String, [] as ε, ◌∷◌ as ◌◁◌}
use Prim.Native.Char.{code}
use Rattle.rule.specs.Func.{Fn}
use Rattle.rule.specs.Cube.{Sign, sign0, sign1, dash, Cube, covered}
use Rattle.rule.specs.Number.{cube_number}
use Rattle.rule.specs.Rule.{list_of}
use Rattle.rule.specs.Verdict.{Verdict, accept, off, missing, literal, cube, verdict}
use Rattle.rule.specs.Rows.{Kind, fd, Row, out1, out_dash, lower_of, upper_of}

-- A cube as it is written: 0, 1, and - for a dash.
unfoldable pub sign_for : Bool → Bool → Sign
sign_for true z = sign0
sign_for false true = sign1
sign_for false false = dash

unfoldable pub written : String → Cube
written ε = []
written (c ◁ s) = sign_for (eqb (code c) 48) (eqb (code c) 49) ∷ written s

-- A marked case.
pub data Case : Type 0 where
  -- columns, on rows, don't-care rows: the rule gives these rows, and the verdict accepts them
  lists : ℕ → List String → List String → List String → Case
  -- a cube has this number
  numbered : String → ℕ → Case
  -- columns, on rows, don't-care rows: this verdict on these rows
  judged : ℕ → List String → List String → List String → Verdict → Case
  -- columns, type, rows: the rule gives these rows for what they mean
  reads : ℕ → Kind → List Row → List String → Case

-- The function that some rows cover.
unfoldable pub rows_fn : (m : ℕ) → List String → Fn m
rows_fn m rows = covered m (map written rows)

-- Whether two signs, two lists of something, two verdicts are the same.
unfoldable pub sign_code : Sign → ℕ
sign_code sign0 = 0
sign_code sign1 = 1
sign_code dash = 2

unfoldable pub same_list : {A : Type 0} → (A → A → Bool) → List A → List A → Bool
same_list t [] [] = true
same_list t [] (y ∷ ys) = false
same_list t (x ∷ xs) [] = false
same_list t (x ∷ xs) (y ∷ ys) = t x y && same_list t xs ys

unfoldable pub same_cube : Cube → Cube → Bool
same_cube c d = same_list (λ s t. eqb (sign_code s) (sign_code t)) c d

unfoldable pub verdict_code : Verdict → List ℕ
verdict_code accept = 0 ∷ []
verdict_code (off c p) = 1 ∷ c ∷ p ∷ []
verdict_code (missing p) = 2 ∷ p ∷ []
verdict_code (literal c k) = 3 ∷ c ∷ k ∷ []
verdict_code (cube c) = 4 ∷ c ∷ []

unfoldable pub same_verdict : Verdict → Verdict → Bool
same_verdict v w = same_list eqb (verdict_code v) (verdict_code w)

-- Whether a case holds of the definitions.
unfoldable pub holds : Case → Bool
holds (lists m on dc rows) =
    same_list same_cube (list_of m (rows_fn m on) (rows_fn m (on ++ dc))) (map written rows) &&
    same_verdict (verdict m (rows_fn m on) (rows_fn m (on ++ dc)) (map written rows)) accept
holds (numbered row x) = eqb (cube_number (written row)) x
holds (judged m on dc rows v) = same_verdict (verdict m (rows_fn m on) (rows_fn m (on ++ dc)) (map written rows)) v
holds (reads m t rows list) = same_list same_cube (list_of m (lower_of m t rows) (upper_of m t rows)) (map written list)

unfoldable pub all_hold : List Case → Bool
all_hold [] = true
all_hold (c ∷ cs) = holds c && all_hold cs

-- The cases, by document 01's numbers.
unfoldable pub marked : List Case
marked =
    -- 1. 0 columns, L = U = 1: one cube, number 0.
    lists 0 ("" ∷ []) [] ("" ∷ []) ∷ numbered "" 0 ∷
    -- 2. L = 0, U = 1: empty list.
    lists 2 [] ("--" ∷ []) [] ∷
    -- 3. On 01, 10: `01`, `10`, numbers 65538 and 131073.
    lists 2 ("01" ∷ "10" ∷ []) [] ("01" ∷ "10" ∷ []) ∷ numbered "01" 65538 ∷ numbered "10" 131073 ∷
    -- 4. On 01, 10, 11: `1-`, `-1`.
    lists 2 ("01" ∷ "10" ∷ "11" ∷ []) [] ("1-" ∷ "-1" ∷ []) ∷
    -- 5. On 11: `11`.
    lists 2 ("11" ∷ []) [] ("11" ∷ []) ∷
    -- 6. On 11, don't care 10: `1-`.
    lists 2 ("11" ∷ []) ("10" ∷ []) ("1-" ∷ []) ∷
    -- 7. On 01, don't care 11: `-1`.
    lists 2 ("01" ∷ []) ("11" ∷ []) ("-1" ∷ []) ∷
    -- 8. Three columns, on where not all are equal: `0-1`, `1-0`, `-01`, `-10`; the rows `01-`, `-01`, `1-0` are accepted too.
    lists 3 unequal [] ("0-1" ∷ "1-0" ∷ "-01" ∷ "-10" ∷ []) ∷ judged 3 unequal [] ("01-" ∷ "-01" ∷ "1-0" ∷ []) accept ∷
    -- 9. `-1` twice for on 01, 11: fault (d), cube 1.
    judged 2 ("01" ∷ "11" ∷ []) [] ("-1" ∷ "-1" ∷ []) (cube 1) ∷
    -- 10. Rows `11 1` and `11 -` in fd: list `11`.
    reads 2 fd (record { cube = written "11"; out = out1 } ∷ record { cube = written "11"; out = out_dash } ∷ []) ("11" ∷ []) ∷ []
  where
    unequal : List String
    unequal = "001" ∷ "010" ∷ "011" ∷ "100" ∷ "101" ∷ "110" ∷ []

-- The errors that look right, each with cases that notice it.
unfoldable pub looks_right : List Case
looks_right =
    -- Reading don't care as on in step 1: case 2 would give a cube.
    lists 2 [] ("--" ∷ []) [] ∷
    -- P0 = L0 less L1: in case 7 it leaves `01`, whose literal in column 0 can go.
    lists 2 ("01" ∷ []) ("11" ∷ []) ("-1" ∷ []) ∷ judged 2 ("01" ∷ []) ("11" ∷ []) ("01" ∷ []) (literal 1 0) ∷
    -- Skipping R0 and R1 and joining L0 and L1 by the table: on 010, 011, 101, 111 the redundant `-11` appears.
    lists 3 halves [] ("01-" ∷ "1-1" ∷ []) ∷ judged 3 halves [] ("01-" ∷ "1-1" ∷ "-11" ∷ []) (cube 3) ∷
    -- Testing a literal against the on set only: case 6 given as `11` would pass, though its literal in column 1 can go.
    judged 2 ("11" ∷ []) ("10" ∷ []) ("11" ∷ []) (literal 1 1) ∷
    -- Counting rows and literals instead of points: for on 01, 10 the rule gives two rows with four literals. As many are
    -- `00`, `10`, with one literal on the wrong side: cube 1 covers the off point 00. As many are `01`, `01`: 10, number 1, is bare.
    judged 2 ("01" ∷ "10" ∷ []) [] ("00" ∷ "10" ∷ []) (off 1 0) ∷ judged 2 ("01" ∷ "10" ∷ []) [] ("01" ∷ "01" ∷ []) (missing 1) ∷ []
  where
    halves : List String
    halves = "010" ∷ "011" ∷ "101" ∷ "111" ∷ []
