-- Awkward texts as one table, with the outcome of each, and the one test over it.
use Rattle.std.specs.Prelude.{Bool, true, false, ◌&&◌, List, [], ◌∷◌, map, ℕ, eqb}
use Prim.Native.String.{String}
use Rattle.rule.specs.Number.{cube_number}
use Rattle.rule.specs.Marked.{written, same_list, same_cube}
use Rattle.rule.specs.Rows.{Kind, f, fd, fr, Out, out0, out1, out_dash, out_tilde, Row, lower_of, upper_of}
use Rattle.rule.specs.Rule.{list_of, list_numbers}
use Rattle.line.specs.Bytes.{bytes}
use Rattle.line.specs.Meaning.{after_end}
use Rattle.text.specs.Outcome.{Outcome, good, fault, outcome}
use Rattle.text.specs.Writing.{list_text}

pub data Example : Type 0 where
  -- what is asked, a text: these columns, this type, these rows
  reads : ℕ → String → ℕ → Kind → List Row → Example
  -- what is asked, a text: a fault of this line
  faults : ℕ → String → ℕ → Example
  -- a text: what follows its first `.e` line
  leaves : String → String → Example
  -- a function text: the rule gives these rows for what its rows mean
  lists : String → List String → Example
  -- a function text: its list, written out
  writes : String → String → Example

-- A row as it is written.
unfoldable pub row_as : String → Out → Row
row_as s o = record { cube = written s; out = o }

-- An outcome as numbers.
unfoldable pub kind_code : Kind → ℕ
kind_code f = 0
kind_code fd = 1
kind_code fr = 2

unfoldable pub out_code : Out → ℕ
out_code out0 = 0
out_code out1 = 1
out_code out_dash = 2
out_code out_tilde = 3

unfoldable pub row_codes : List Row → List ℕ
row_codes [] = []
row_codes (r ∷ rs) = cube_number r.cube ∷ out_code r.out ∷ row_codes rs

unfoldable pub outcome_code : Outcome → List ℕ
outcome_code (good n t rs) = 0 ∷ n ∷ kind_code t ∷ row_codes rs
outcome_code (fault k) = 1 ∷ k ∷ []

-- The list of a function text, and whether it is some rows; a faulty text has none.
unfoldable pub has_list : Outcome → List String → Bool
has_list (good n t rs) list = same_list same_cube (list_of n (lower_of n t rs) (upper_of n t rs)) (map written list)
has_list (fault k) list = false

-- Whether the list of a function text, written out, is some bytes.
unfoldable pub has_text : Outcome → List ℕ → Bool
has_text (good n t rs) text = same_list eqb (list_text n (list_numbers n (lower_of n t rs) (upper_of n t rs))) text
has_text (fault k) text = false

-- Whether an example holds of the definitions.
unfoldable pub holds : Example → Bool
holds (reads asked text n t rs) = same_list eqb (outcome_code (outcome asked (bytes text))) (outcome_code (good n t rs))
holds (faults asked text k) = same_list eqb (outcome_code (outcome asked (bytes text))) (outcome_code (fault k))
holds (leaves text left) = same_list eqb (after_end (bytes text)) (bytes left)
holds (lists text list) = has_list (outcome 0 (bytes text)) list
holds (writes text answer) = has_text (outcome 0 (bytes text)) (bytes answer)

unfoldable pub all_hold : List Example → Bool
all_hold [] = true
all_hold (e ∷ es) = holds e && all_hold es

-- Function texts.
unfoldable pub function_texts : List Example
function_texts =
    -- The empty text has no lines; what one line leaves missing is known at line 2, with or without its byte 10.
    faults 0 "" 1 ∷ faults 0 "\n" 2 ∷ faults 0 ".i 2" 2 ∷ faults 0 ".i 2\n" 2 ∷
    -- No last byte 10, comments, tabs, empty lines; 2 means -; every output sign; `.e` may be missing.
    reads 0 ".i 2\n.o 1\n01 1" 2 fd (row_as "01" out1 ∷ []) ∷
    reads 0 "# one\n\t .i\t2 # two\n \n.o 1#\n0-  1\n2- -\n-1 ~\n11 0\n.e\n" 2 fd
    (row_as "0-" out1 ∷ row_as "--" out_dash ∷ row_as "-1" out_tilde ∷ row_as "11" out0 ∷ []) ∷
    reads 0 ".o 1\n.type fr\n.p 0\n.i 16\n" 16 fr [] ∷ reads 0 ".i 1\n.o 1\n.type f\n1 1\n" 1 f (row_as "1" out1 ∷ []) ∷
    -- Leading zeros are good, six digits are not; 1 to 16 columns.
    reads 0 ".i 016\n.o 1\n.p 00000\n" 16 fd [] ∷ reads 0 ".i 00001\n.o 1\n" 1 fd [] ∷ faults 0 ".i 000001\n.o 1\n" 1 ∷
    faults 0 ".o 1\n.i 0\n" 2 ∷ faults 0 ".i 17\n" 1 ∷ faults 0 ".i 99999\n" 1 ∷ faults 0 ".i x\n" 1 ∷ faults 0 ".i\n" 1 ∷
    -- A wrong `.p` is known at the end: at the `.e` line, or one past the last line.
    faults 0 ".i 1\n.o 1\n.p 2\n1 1\n.e\n" 5 ∷ faults 0 ".i 1\n.o 1\n.p 2\n1 1" 5 ∷ faults 0 ".i 1\n.o 1\n.p 0\n1 1\n\n" 6 ∷
    reads 0 ".i 1\n.o 1\n.p 00001\n1 1\n.e" 1 fd (row_as "1" out1 ∷ []) ∷ faults 0 ".i 1\n.p 000001\n" 2 ∷
    -- A missing directive, one given again, one after a row.
    faults 0 ".i 1\n.e\n.o 1\n" 2 ∷ faults 0 ".i 1\n.i 1\n" 2 ∷ faults 0 ".o 1\n.o 1\n" 2 ∷
    faults 0 ".type f\n.type f\n" 2 ∷ faults 0 ".p 1\n.p 1\n" 2 ∷ faults 0 ".i 1\n.o 1\n1 1\n.p 1\n" 4 ∷
    -- A row with `.i` or `.o` still missing, and the wrong number of signs or fields.
    faults 0 "1 1\n.i 1\n.o 1\n" 1 ∷ faults 0 ".i 1\n1 1\n.o 1\n" 2 ∷ faults 0 ".o 1\n1 1\n" 2 ∷
    faults 0 ".i 2\n.o 1\n1 1\n" 3 ∷ faults 0 ".i 2\n.o 1\n111 1\n" 3 ∷ faults 0 ".i 2\n.o 1\n111\n" 3 ∷
    faults 0 ".i 2\n.o 1\n11 1 1\n" 3 ∷ faults 0 ".i 2\n.o 1\n11 11\n" 3 ∷ faults 0 ".i 2\n.o 1\n1x 1\n" 3 ∷
    faults 0 ".i 2\n.o 1\n11 2\n" 3 ∷ faults 0 ".i 2\n.o 1\n1~ 1\n" 3 ∷
    -- Seventeen signs are too many for any text.
    faults 0 ".i 16\n.o 1\n00000000000000000 1\n" 3 ∷
    -- Words are exact; `.o` takes 1; carriage return separates nothing; `.e x` is a fault.
    faults 0 ".I 2\n" 1 ∷ faults 0 ".o 2\n" 1 ∷ faults 0 ".o 01\n" 1 ∷ faults 0 ".type FD\n" 1 ∷ faults 0 ".kiss\n" 1 ∷
    faults 0 ".i 2\r\n" 1 ∷ faults 0 ".i 2\n.o 1\n.e x\n" 3 ∷ faults 0 ".e\n" 1 ∷
    -- Bytes after `.e` are unread; the first of two faults wins.
    reads 0 ".i 1\n.o 1\n.e # end\n?\n" 1 fd [] ∷ faults 0 ".i 1\n?\n?\n" 2 ∷ []

-- Candidates, and where a function text ends.
unfoldable pub candidate_texts : List Example
candidate_texts =
    reads 2 ".i 2\n.o 1\n1- 1\n-1 1\n.e\n" 2 fd (row_as "1-" out1 ∷ row_as "-1" out1 ∷ []) ∷
    reads 2 ".i 2\n.type f\n.o 1\n" 2 f [] ∷ reads 2 ".i 2\n.type fd\n.o 1\n" 2 fd [] ∷ faults 2 ".i 2\n.type fr\n.o 1\n" 2 ∷
    faults 2 ".o 1\n.i 3\n" 2 ∷ faults 2 ".i 2\n.o 1\n11 1\n11 0\n" 4 ∷ faults 2 ".i 2\n.o 1\n11 -\n" 3 ∷
    faults 2 ".i 2\n.o 1\n11 ~\n" 3 ∷ faults 2 "" 1 ∷
    leaves ".i 1\n.e\n.i 2\n.e\n" ".i 2\n.e\n" ∷ leaves ".e" "" ∷ leaves "?\n .e #\nx" "x" ∷ leaves ".i 1\n" "" ∷
    leaves ".i 1" "" ∷ leaves ".e x\n\n.e\n\n" "\n" ∷ []

-- Function texts with their lists.
unfoldable pub list_texts : List Example
list_texts =
    -- Marked case 10 of document 01: rows `11 1` and `11 -` in fd, which an absent type means: list `11`.
    reads 0 ".i 2\n.o 1\n11 1\n11 -\n" 2 fd (row_as "11" out1 ∷ row_as "11" out_dash ∷ []) ∷
    lists ".i 2\n.o 1\n11 1\n11 -\n" ("11" ∷ []) ∷
    -- Its whole example.
    lists ".i 2\n.o 1\n01 1\n10 1\n11 -\n.e\n" ("1-" ∷ "-1" ∷ []) ∷
    writes ".i 2\n.o 1\n01 1\n10 1\n11 -\n.e\n" ".i 2\n.o 1\n.p 2\n1- 1\n-1 1\n.e\n" ∷
    -- In f a row with - has no meaning; in fr neither, and the points of no row are don't care.
    lists ".i 2\n.o 1\n.type f\n01 1\n10 1\n11 -\n" ("01" ∷ "10" ∷ []) ∷
    lists ".i 2\n.o 1\n.type fr\n01 1\n10 0\n11 -\n" ("-1" ∷ []) ∷ []
