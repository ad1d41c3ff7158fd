-- A text's outcome said without a state: whether a line is legal is asked of the lines before it.
use Rattle.std.specs.Prelude.{Bool, true, false, cond, not, ◌&&◌, ◌||◌, List, [], ◌∷◌, ◌++◌, map, ℕ, ◌+◌, eqb, length}
use Rattle.rule.specs.Rows as Rows
use Rattle.line.specs.Bytes.{lines}
use Rattle.line.specs.Meaning.{meaning, is_end, kind_of, row_of}
use Rattle.line.specs.declared.meaning.Kind.{Kind}
use Rattle.line.specs.declared.meaning.Kind.TheVariants.{Fd}
use Rattle.line.specs.declared.meaning.Line.{Line}
use Rattle.line.specs.declared.meaning.Line.TheVariants.{Empty, Columns, Output, Typed, Count, Row, End, Bad}
use Rattle.text.specs.Outcome.{Outcome, good, fault, allows_columns, allows_kind, allows_out}

-- The sorts of lines: `.i`, `.o`, `.type`, `.p`, a row, and 0 for any other.
unfoldable pub sort : Line → ℕ
sort Empty = 0
sort (Columns n) = 1
sort Output = 2
sort (Typed t) = 3
sort (Count n) = 4
sort (Row n x o) = 5
sort End = 0
sort Bad = 0

-- Whether a line of a sort is among some lines.
unfoldable pub given : ℕ → List Line → Bool
given k [] = false
given k (l ∷ ls) = eqb (sort l) k || given k ls

-- What the first line of a sort says, or something else where there is none.
unfoldable pub said : {A : Type 0} → ℕ → (Line → A) → A → List Line → A
said k value none [] = none
said k value none (l ∷ ls) = cond (eqb (sort l) k) (value l) (said k value none ls)

-- What single lines say: the columns, the type, the stated number of rows.
unfoldable pub columns_in : Line → ℕ
columns_in Empty = 0
columns_in (Columns n) = n
columns_in Output = 0
columns_in (Typed t) = 0
columns_in (Count n) = 0
columns_in (Row n x o) = 0
columns_in End = 0
columns_in Bad = 0

unfoldable pub kind_in : Line → Kind
kind_in Empty = Fd
kind_in (Columns n) = Fd
kind_in Output = Fd
kind_in (Typed t) = t
kind_in (Count n) = Fd
kind_in (Row n x o) = Fd
kind_in End = Fd
kind_in Bad = Fd

unfoldable pub count_in : Line → ℕ
count_in Empty = 0
count_in (Columns n) = 0
count_in Output = 0
count_in (Typed t) = 0
count_in (Count n) = n
count_in (Row n x o) = 0
count_in End = 0
count_in Bad = 0

-- What some lines say. An absent type means fd.
unfoldable pub columns_said : List Line → ℕ
columns_said ls = said 1 columns_in 0 ls

unfoldable pub kind_said : List Line → Kind
kind_said ls = said 3 kind_in Fd ls

unfoldable pub count_said : List Line → ℕ
count_said ls = said 4 count_in 0 ls

-- The row of a line, and the rows of some lines in order.
unfoldable pub row_said : Line → List Rows.Row
row_said Empty = []
row_said (Columns n) = []
row_said Output = []
row_said (Typed t) = []
row_said (Count n) = []
row_said (Row n x o) = row_of n x o ∷ []
row_said End = []
row_said Bad = []

unfoldable pub rows_said : List Line → List Rows.Row
rows_said [] = []
rows_said (l ∷ ls) = row_said l ++ rows_said ls

-- Whether a line is legal after the lines before it. A directive stands once and before the first row; a row stands after `.i`
-- with its number of signs and after `.o`.
unfoldable pub legal_after : ℕ → List Line → Line → Bool
legal_after asked before Empty = true
legal_after asked before (Columns n) = not (given 5 before) && not (given 1 before) && allows_columns asked n
legal_after asked before Output = not (given 5 before) && not (given 2 before)
legal_after asked before (Typed t) = not (given 5 before) && not (given 3 before) && allows_kind asked t
legal_after asked before (Count n) = not (given 5 before) && not (given 4 before)
legal_after asked before (Row n x o) = given 1 before && given 2 before && eqb n (columns_said before) && allows_out asked o
legal_after asked before End = true
legal_after asked before Bad = false

-- Whether some lines are a whole text: `.i` and `.o` are among them, and `.p`, if it is, equals the number of rows.
unfoldable pub whole : List Line → Bool
whole ls = given 1 ls && given 2 ls && (not (given 4 ls) || eqb (count_said ls) (length (rows_said ls)))

-- The outcome of a text's lines up to its end, known at the line after them.
unfoldable pub closed : List Line → Outcome
closed ls = cond (whole ls) (good (columns_said ls) (kind_of (kind_said ls)) (rows_said ls)) (fault (length ls + 1))

-- The outcome of lines after those before them: the first illegal line is the fault; `.e`, or the end of the bytes, closes.
unfoldable pub closing : Bool → Outcome → Outcome → Outcome
closing true here after = here
closing false here after = after

unfoldable pub outcome_after : ℕ → List Line → List Line → Outcome
outcome_after asked before [] = closed before
outcome_after asked before (l ∷ ls) =
    closing (is_end l) (closed before)
    (cond (legal_after asked before l) (outcome_after asked (before ++ (l ∷ [])) ls) (fault (length before + 1)))

unfoldable pub stateless_outcome : ℕ → List ℕ → Outcome
stateless_outcome asked text = outcome_after asked [] (map meaning (lines text))
