-- The whole answer of each program to its whole input. The table has 4,096 records, the list room 1,536 cubes.
use Rattle.std.specs.Prelude.{◌≡◌, cond, List, [], ◌∷◌, ℕ, zero, suc, eqb, leb, length, replicate}
use Rattle.rule.specs.Nodes.{add_all, need}
use Rattle.rule.specs.Refusal.{first_broken, nodes_lack, list_lacks}
use Rattle.rule.specs.Rows.{Kind, Row, lower_of, upper_of, reading_names}
use Rattle.rule.specs.Rule.{list_numbers}
use Rattle.rule.specs.Verdict.{verdict_numbers}
use Rattle.line.specs.Meaning.{after_end}
use Rattle.text.specs.Outcome.{Outcome, good, fault, outcome}
use Rattle.text.specs.Candidate.{cubes_of, read_conditions, read_returns}
use Rattle.text.specs.Function.{function_refusal, function_returns}
use Rattle.text.specs.Room.{padded}
use Rattle.text.specs.Writing.{list_text}
use Rattle.desk.specs.Said.{refused_text, verdict_text}

-- A slice of the programs' table.
unfoldable pub column : List ℕ
column = replicate 4096 0

-- The refusal of the input as a function text, or 0.
unfoldable pub input_refusal : List ℕ → ℕ
input_refusal input = function_refusal input column column column

-- What follows a function text that was read, and what follows one that was not.
unfoldable pub answer_by : List ℕ → ℕ → Outcome → ((n : ℕ) → Kind → List Row → List ℕ) → List ℕ
answer_by input (suc r) w next = refused_text (suc r) (function_returns input (suc r))
answer_by input zero (good n t rows) next = next n t rows
answer_by input zero (fault k) next = []

-- The list of the rule for some rows, and its refusal: 7, the node need is at most 4,096, the records of the reading being
-- there at entry; 8, the list is no longer than 1,536.
unfoldable pub rows_list : (n : ℕ) → Kind → List Row → List ℕ
rows_list n t rows = list_numbers n (lower_of n t rows) (upper_of n t rows)

unfoldable pub list_refusal : (n : ℕ) → Kind → List Row → ℕ
list_refusal n t rows =
    first_broken
    (record { number = nodes_lack; kept = leb (need (add_all [] (reading_names n t rows)) n (lower_of n t rows) (upper_of n t rows)) 4096 } ∷
    record { number = list_lacks; kept = leb (length (rows_list n t rows)) 1536 } ∷ [])

-- The list's text, or its refusal: 8 returns the length needed.
unfoldable pub list_said : (n : ℕ) → List ℕ → ℕ → List ℕ
list_said n xs zero = list_text n xs
list_said n xs (suc r) = refused_text (suc r) (cond (eqb (suc r) list_lacks) (length xs) 0)

-- The first program's answer.
unfoldable pub list_answer : List ℕ → List ℕ
list_answer input =
    answer_by input (input_refusal input) (outcome 0 input) (λ n t rows. list_said n (rows_list n t rows) (list_refusal n t rows))

-- The verdict on a candidate for some rows, or the candidate's refusal.
unfoldable pub candidate_said : (n : ℕ) → Kind → List Row → List ℕ → ℕ → List ℕ
candidate_said n t rows text zero =
    verdict_text n (verdict_numbers n (lower_of n t rows) (upper_of n t rows) (cubes_of (outcome n text)))
candidate_said n t rows text (suc r) = refused_text (suc r) (read_returns (outcome n text) (suc r))

-- The second program's answer. The function text ends with its first `.e` line; the candidate is the rest.
unfoldable pub check_answer : List ℕ → List ℕ
check_answer input =
    answer_by input (input_refusal input) (outcome 0 input)
    (λ n t rows. candidate_said n t rows (after_end input) (first_broken (read_conditions n (after_end input) 1536)))

-- The bytes that every answer fits: a list of 1,536 rows of 16 columns.
abbrev pub answer_room : ℕ
answer_room = 29206

-- What a program's function promises of its answer room: it holds the answer, with zeros past it, and the number of its bytes
-- is returned. A room that not every answer fits is left as it is, and 0 is returned.
pub record Answers (answer : List ℕ) (room : List ℕ) (room' : List ℕ) (r : ℕ) : Type 0 where
  pub count : r ≡ cond (leb answer_room (length room)) (length answer) 0
  pub left : room' ≡ cond (leb answer_room (length room)) (padded answer room) room
