-- Whole inputs as one table, with the whole answer to each, and the one test over it.
use Rattle.std.specs.Prelude.{Bool, true, ◌&&◌, List, [], ◌∷◌, eqb}
use Prim.Native.String.{String}
use Rattle.rule.specs.Marked.{same_list}
use Rattle.line.specs.Bytes.{bytes}
use Rattle.desk.specs.Answer.{list_answer, check_answer}

pub data Example : Type 0 where
  -- an input of the first program, and its answer
  lists : String → String → Example
  -- an input of the second program, and its answer
  checks : String → String → Example

-- Whether an example holds of the definitions.
unfoldable pub holds : Example → Bool
holds (lists input answer) = same_list eqb (list_answer (bytes input)) (bytes answer)
holds (checks input answer) = same_list eqb (check_answer (bytes input)) (bytes answer)

unfoldable pub all_hold : List Example → Bool
all_hold [] = true
all_hold (e ∷ es) = holds e && all_hold es

unfoldable pub examples : List Example
examples =
    -- The whole example of document 01, and inputs without a good function text.
    lists ".i 2\n.o 1\n01 1\n10 1\n11 -\n.e\n" ".i 2\n.o 1\n.p 2\n1- 1\n-1 1\n.e\n" ∷
    lists "" "refused 11 1\n" ∷ checks "" "refused 11 1\n" ∷
    lists ".i 1\n.o 1\n.type fr\n1 1\n- 0\n" "refused 12 0\n" ∷
    -- Each verdict on a list for that function. Points are printed column by column: 01 has the number 2.
    checks ".i 2\n.o 1\n01 1\n10 1\n11 -\n.e\n.i 2\n.o 1\n1- 1\n-1 1\n.e\n" "accept\n" ∷
    checks ".i 2\n.o 1\n10 1\n.e\n.i 2\n.o 1\n10 1\n-1 1\n" "off 2 01\n" ∷
    checks ".i 2\n.o 1\n01 1\n10 1\n11 -\n.e\n.i 2\n.o 1\n1- 1\n" "missing 01\n" ∷
    checks ".i 2\n.o 1\n01 1\n10 1\n11 -\n.e\n.i 2\n.o 1\n1- 1\n01 1\n" "literal 2 1\n" ∷
    checks ".i 2\n.o 1\n-1 1\n.e\n.i 2\n.o 1\n-1 1\n-1 1\n" "cube 1\n" ∷
    -- A candidate's lines count from 1 again; without `.e` it is empty; the function text's refusal comes first.
    checks ".i 1\n.o 1\n1 1\n.e\n.i 1\n.o 1\n1 0\n" "refused 11 3\n" ∷
    checks ".i 1\n.o 1\n1 1\n" "refused 11 1\n" ∷
    checks ".i 1\n.o 1\n?\n.e\n?\n" "refused 11 3\n" ∷ []
