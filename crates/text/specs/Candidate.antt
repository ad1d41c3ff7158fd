-- The entry that reads a candidate: what it refuses, what it answers, and what it leaves behind.
use Rattle.std.specs.Prelude.{◌≡◌, Bool, true, false, cond, ◌&&◌, ◌||◌, List, [], ◌∷◌, ◌++◌, map, ℕ, zero, suc, eqb, leb, length, Result, Ok, Err}
use Rattle.rule.specs.Number.{cube_number}
use Rattle.rule.specs.Refusal.{Condition, first_broken, columns_over, text_over, list_over, text_fault, list_lacks, number_of, refusal_of}
use Rattle.rule.specs.declared.refusal.Refused.{Refused}
use Rattle.line.specs.Meaning.{meaning, is_end}
use Rattle.line.specs.declared.meaning.Line.{Line}
use Rattle.text.specs.Outcome.{Outcome, good, fault, outcome}
use Rattle.text.specs.Room.{cleared, padded}

-- Whether a text has no fault, the line of its fault, and the numbers of its rows' cubes in order.
unfoldable pub is_good : Outcome → Bool
is_good (good n t rs) = true
is_good (fault k) = false

unfoldable pub fault_line : Outcome → ℕ
fault_line (good n t rs) = 0
fault_line (fault k) = k

unfoldable pub cubes_of : Outcome → List ℕ
cubes_of (good n t rs) = map (λ r. cube_number r.cube) rs
cubes_of (fault k) = []

-- What reading a candidate for n columns asks: 1, 1 to 16 columns; 10, at most 32,768 bytes; 6, a list room of at most 16,384;
-- 11, no fault; 8, the rows fit the room.
unfoldable pub read_conditions : ℕ → List ℕ → ℕ → List Condition
read_conditions n text room =
    record { number = columns_over; kept = leb 1 n && leb n 16 } ∷
    record { number = text_over; kept = leb (length text) 32768 } ∷
    record { number = list_over; kept = leb room 16384 } ∷
    record { number = text_fault; kept = is_good (outcome n text) } ∷
    record { number = list_lacks; kept = leb (length (cubes_of (outcome n text))) room } ∷ []

-- What a refusal returns: 11 the line of the first fault; 8 the rows; the others 0.
unfoldable pub read_returns : Outcome → ℕ → ℕ
read_returns w r = cond (eqb r text_fault) (fault_line w) (cond (eqb r list_lacks) (length (cubes_of w)) 0)

-- The answer: the first broken condition with what it returns, else the number of rows.
unfoldable pub read_by : ℕ → Outcome → Result ℕ Refused
read_by zero w = Ok (length (cubes_of w))
read_by (suc r) w = Err (record { refusal = refusal_of (suc r); returned = read_returns w (suc r) })

unfoldable pub read_answer : ℕ → List ℕ → ℕ → Result ℕ Refused
read_answer n text room = read_by (first_broken (read_conditions n text room)) (outcome n text)

-- The numbers of an answer, as document 01 has them: the refusal or 0, what it returns, and the length of the list.
pub record ReadNumbers : Type 0 where
  pub refusal : ℕ
  pub returned : ℕ
  pub rows : ℕ

unfoldable pub read_numbers : Result ℕ Refused → ReadNumbers
read_numbers (Ok k) = record { refusal = 0; returned = 0; rows = k }
read_numbers (Err r) = record { refusal = number_of r.refusal; returned = r.returned; rows = 0 }

-- The numbers for a refusal or 0.
unfoldable pub numbers_for : ℕ → Outcome → ReadNumbers
numbers_for r w = record { refusal = r; returned = read_returns w r; rows = cond (eqb r 0) (length (cubes_of w)) 0 }

-- The room afterwards: at done the cubes and zeros past them; at 8 and 11 all zero; at other refusals as it was.
unfoldable pub list_by : ℕ → Outcome → List ℕ → List ℕ
list_by zero w room = padded (cubes_of w) room
list_by (suc r) w room = cond (eqb (suc r) text_fault || eqb (suc r) list_lacks) (cleared 0 room) room

unfoldable pub list_read : ℕ → List ℕ → List ℕ → List ℕ
list_read n text room = list_by (first_broken (read_conditions n text (length room))) (outcome n text) room

-- What the reading entry promises.
pub record Read (n : ℕ) (text : List ℕ) (room : List ℕ) (room' : List ℕ) (r : Result ℕ Refused) : Type 0 where
  pub answer : r ≡ read_answer n text (length room)
  pub numbers : read_numbers r ≡ numbers_for (first_broken (read_conditions n text (length room))) (outcome n text)
  pub left : room' ≡ list_read n text room

-- The second pass: the cube number of a row, and those of the rows up to `.e`.
unfoldable pub row_number : Line → List ℕ
row_number Line.Empty = []
row_number (Line.Columns n) = []
row_number Line.Output = []
row_number (Line.Typed t) = []
row_number (Line.Count n) = []
row_number (Line.Row n x o) = x ∷ []
row_number Line.End = []
row_number Line.Bad = []

unfoldable pub row_numbers : List (List ℕ) → List ℕ
row_numbers [] = []
row_numbers (l ∷ ls) = cond (is_end (meaning l)) [] (row_number (meaning l) ++ row_numbers ls)
