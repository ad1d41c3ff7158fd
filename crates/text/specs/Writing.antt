-- The written text of a list, and the entry that writes it: what it refuses, what it answers, and what it leaves behind.
use Rattle.std.specs.Prelude.{◌≡◌, cond, ◌&&◌, List, [], ◌∷◌, ◌++◌, map, ℕ, zero, suc, ◌≤◌, eqb, leb, length, Result, Ok, Err}
use Rattle.rule.specs.Cube.{Sign, sign0, sign1, dash, Cube}
use Rattle.rule.specs.Number.{signs, first_malformed}
use Rattle.rule.specs.Refusal.{Condition, first_broken, columns_over, list_over, cube_malformed, text_lacks, number_of, refusal_of}
use Rattle.rule.specs.declared.refusal.Refused.{Refused}
use Rattle.line.specs.Bytes.{bytes}
use Rattle.line.specs.Decimal.{decimal}
use Rattle.text.specs.Room.{padded}

-- The byte of a sign.
unfoldable pub sign_byte : Sign → ℕ
sign_byte sign0 = 48
sign_byte sign1 = 49
sign_byte dash = 45

-- A row: the signs of a cube, a space and 1.
unfoldable pub row_text : Cube → List ℕ
row_text c = map sign_byte c ++ bytes " 1\n"

-- The rows of some cube numbers, for n columns.
unfoldable pub rows_text : ℕ → List ℕ → List ℕ
rows_text n [] = []
rows_text n (x ∷ xs) = row_text (signs n x) ++ rows_text n xs

-- Parts one after the other.
unfoldable pub joined : List (List ℕ) → List ℕ
joined [] = []
joined (p ∷ ps) = p ++ joined ps

-- The text of a list of cube numbers, for n columns.
unfoldable pub text_parts : ℕ → List ℕ → List (List ℕ)
text_parts n xs =
    bytes ".i " ∷ decimal n ∷ bytes "\n.o 1\n.p " ∷ decimal (length xs) ∷ bytes "\n" ∷ rows_text n xs ∷ bytes ".e\n" ∷ []

unfoldable pub list_text : ℕ → List ℕ → List ℕ
list_text n xs = joined (text_parts n xs)

-- What writing asks: 1, 1 to 16 columns; 6, at most 16,384 cubes; 9, none malformed; 13, the text fits the room.
unfoldable pub write_conditions : ℕ → List ℕ → ℕ → List Condition
write_conditions n xs room =
    record { number = columns_over; kept = leb 1 n && leb n 16 } ∷
    record { number = list_over; kept = leb (length xs) 16384 } ∷
    record { number = cube_malformed; kept = eqb (first_malformed n xs) 0 } ∷
    record { number = text_lacks; kept = leb (length (list_text n xs)) room } ∷ []

-- What a refusal returns: 9 the position of the first malformed cube, from 1; 13 the bytes needed; the others 0.
unfoldable pub write_returns : ℕ → List ℕ → ℕ → ℕ
write_returns n xs r = cond (eqb r cube_malformed) (first_malformed n xs) (cond (eqb r text_lacks) (length (list_text n xs)) 0)

-- The answer: the first broken condition with what it returns, else the bytes written.
unfoldable pub answer_by : ℕ → ℕ → List ℕ → Result ℕ Refused
answer_by zero n xs = Ok (length (list_text n xs))
answer_by (suc r) n xs = Err (record { refusal = refusal_of (suc r); returned = write_returns n xs (suc r) })

unfoldable pub write_answer : ℕ → List ℕ → ℕ → Result ℕ Refused
write_answer n xs room = answer_by (first_broken (write_conditions n xs room)) n xs

-- The numbers of an answer, as document 01 has them: the refusal or 0, what it returns, and the bytes written.
pub record Numbers : Type 0 where
  pub refusal : ℕ
  pub returned : ℕ
  pub written : ℕ

unfoldable pub numbers_of : Result ℕ Refused → Numbers
numbers_of (Ok k) = record { refusal = 0; returned = 0; written = k }
numbers_of (Err r) = record { refusal = number_of r.refusal; returned = r.returned; written = 0 }

-- The numbers for a refusal or 0.
unfoldable pub numbers_for : ℕ → ℕ → List ℕ → Numbers
numbers_for r n xs =
    record { refusal = r; returned = write_returns n xs r; written = cond (eqb r 0) (length (list_text n xs)) 0 }

-- The room afterwards: at done the text and zeros past it, else as it was.
unfoldable pub room_by : ℕ → ℕ → List ℕ → List ℕ → List ℕ
room_by zero n xs room = padded (list_text n xs) room
room_by (suc r) n xs room = room

unfoldable pub room_written : ℕ → List ℕ → List ℕ → List ℕ
room_written n xs room = room_by (first_broken (write_conditions n xs (length room))) n xs room

-- What the writing entry promises.
pub record Wrote (n : ℕ) (xs : List ℕ) (room : List ℕ) (room' : List ℕ) (r : Result ℕ Refused) : Type 0 where
  pub answer : r ≡ write_answer n xs (length room)
  pub numbers : numbers_of r ≡ numbers_for (first_broken (write_conditions n xs (length room))) n xs
  pub left : room' ≡ room_written n xs room

-- What the text's writer asks once nothing is refused.
pub record Writable (n : ℕ) (xs : List ℕ) (room : ℕ) : Type 0 where
  pub columns : n ≤ 16
  pub few : length xs ≤ 16384
  pub fits : length (list_text n xs) ≤ room
