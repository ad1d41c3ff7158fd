-- A text's outcome: its shape, or the line of its first fault in the order in which a reader meets them.
use Rattle.std.specs.Prelude.{Bool, true, false, cond, not, ◌&&◌, ◌||◌, List, [], ◌∷◌, ℕ, ◌+◌, eqb, Option, Some, None}
use Rattle.rule.specs.Rows as Rows
use Rattle.line.specs.Bytes.{lines}
use Rattle.line.specs.Meaning.{meaning, kind_of, row_of}
use Rattle.line.specs.declared.meaning.Kind.{Kind}
use Rattle.line.specs.declared.meaning.Kind.TheVariants.{F, Fd, Fr}
use Rattle.line.specs.declared.meaning.Out.{Out}
use Rattle.line.specs.declared.meaning.Out.TheVariants.{Zero, One, Dash, Tilde}
use Rattle.line.specs.declared.meaning.Line.{Line}
use Rattle.line.specs.declared.meaning.Line.TheVariants.{Empty, Columns, Output, Typed, Count, Row, End, Bad}
use Rattle.text.specs.declared.judge.State.{State}
use Rattle.text.specs.declared.judge.Step.{Step}
use Rattle.text.specs.declared.judge.Step.TheVariants.{On, Fault, Ended}

-- The outcome: columns, type and rows in order, or the line of the first fault.
pub data Outcome : Type 0 where
  good : ℕ → Rows.Kind → List Rows.Row → Outcome
  fault : ℕ → Outcome

-- Nothing said yet.
unfoldable pub start : State
start = record { columns = None; output = false; kind = None; count = None; rows = 0 }

-- The state after each kind of line.
unfoldable pub with_columns : State → ℕ → State
with_columns s n = record s { columns = Some n }

unfoldable pub with_output : State → State
with_output s = record s { output = true }

unfoldable pub with_kind : State → Kind → State
with_kind s t = record s { kind = Some t }

unfoldable pub with_count : State → ℕ → State
with_count s n = record s { count = Some n }

unfoldable pub with_row : State → State
with_row s = record s { rows = s.rows + 1 }

-- Whether something was said, and whether the columns are a number.
unfoldable pub said : {A : Type 0} → Option A → Bool
said (Some x) = true
said None = false

unfoldable pub columns_are : Option ℕ → ℕ → Bool
columns_are (Some k) n = eqb n k
columns_are None n = false

-- What is asked of a text: 0 for a function text, else the columns that a candidate must have. A candidate's type is f or
-- fd, and its output signs are 1.
unfoldable pub allows_columns : ℕ → ℕ → Bool
allows_columns asked n = eqb asked 0 || eqb n asked

unfoldable pub allows_kind : ℕ → Kind → Bool
allows_kind asked F = true
allows_kind asked Fd = true
allows_kind asked Fr = eqb asked 0

unfoldable pub allows_out : ℕ → Out → Bool
allows_out asked Zero = eqb asked 0
allows_out asked One = true
allows_out asked Dash = eqb asked 0
allows_out asked Tilde = eqb asked 0

-- A directive stands before the first row, and once.
unfoldable pub first : State → Bool → Bool
first s given = eqb s.rows 0 && not given

-- What a line does after what was said so far: legal lines lead on, the others are faults, `.e` ends the text.
unfoldable pub legal : Bool → State → Step
legal true s = On s
legal false s = Fault

unfoldable pub step : ℕ → State → Line → Step
step asked s Empty = On s
step asked s (Columns n) = legal (first s (said s.columns) && allows_columns asked n) (with_columns s n)
step asked s Output = legal (first s s.output) (with_output s)
step asked s (Typed t) = legal (first s (said s.kind) && allows_kind asked t) (with_kind s t)
step asked s (Count n) = legal (first s (said s.count)) (with_count s n)
step asked s (Row n x o) =
    legal (s.output && columns_are s.columns n && allows_out asked o) (with_row s)
step asked s End = Ended
step asked s Bad = Fault

-- At the end `.i` and `.o` must have been there, and `.p`, if given, must equal the number of rows.
unfoldable pub count_right : Option ℕ → ℕ → Bool
count_right (Some k) rows = eqb k rows
count_right None rows = true

unfoldable pub complete : State → Bool
complete s = said s.columns && s.output && count_right s.count s.rows

-- An absent type means fd.
unfoldable pub kind_or_fd : Option Kind → Kind
kind_or_fd (Some t) = t
kind_or_fd None = Fd

unfoldable pub end_with : Option ℕ → State → ℕ → Outcome
end_with (Some n) s k = cond (complete s) (good n (kind_of (kind_or_fd s.kind)) []) (fault k)
end_with None s k = fault k

unfoldable pub finish : State → ℕ → Outcome
finish s k = end_with s.columns s k

-- A row goes before the rows after it; other lines have none.
unfoldable pub put_row : Rows.Row → Outcome → Outcome
put_row r (good n t rs) = good n t (r ∷ rs)
put_row r (fault k) = fault k

unfoldable pub add_row : Line → Outcome → Outcome
add_row Empty w = w
add_row (Columns n) w = w
add_row Output w = w
add_row (Typed t) w = w
add_row (Count n) w = w
add_row (Row n x o) w = put_row (row_of n x o) w
add_row End w = w
add_row Bad w = w

-- The outcome of the lines from line k on, after what was said so far.
unfoldable pub follow : Step → ℕ → Outcome → (State → Outcome) → Line → Outcome
follow (On s) k here after l = add_row l (after s)
follow Fault k here after l = fault k
follow Ended k here after l = here

unfoldable pub run : ℕ → State → ℕ → List (List ℕ) → Outcome
run asked s k [] = finish s k
run asked s k (l ∷ ls) =
    follow (step asked s (meaning l)) k (finish s k) (λ s'. run asked s' (k + 1) ls) (meaning l)

-- The outcome of a text. Lines count from 1.
unfoldable pub outcome : ℕ → List ℕ → Outcome
outcome asked text = run asked start 1 (lines text)
