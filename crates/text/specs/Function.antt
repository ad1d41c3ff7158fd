-- The entry that reads a function text: what it refuses, what it answers, and what it leaves behind.
use Rattle.std.specs.Prelude.{◌≡◌, Bool, false, cond, not, ◌&&◌, ◌||◌, List, [], ◌∷◌, ◌++◌, ℕ, suc, ◌<◌, eqb, leb, length, Option, Some, None, Result, Ok, Err}
use Rattle.rule.specs.Nodes.{add_all}
use Rattle.rule.specs.Refusal.{Condition, first_broken, text_over, table_over, text_fault, nodes_lack, on_and_off, number_of, refusal_of}
use Rattle.rule.specs.declared.refusal.Refused.{Refused}
use Rattle.rule.specs.Rows.{Kind, Row, lower_of, upper_of, contradicts, reading_names, reading_need}
use Rattle.graph.specs.Entry.{cleared}
use Rattle.graph.specs.Run.{Names}
use Rattle.graph.specs.Sound.{Sound, Sized}
use Rattle.graph.specs.Table.{table_of, functions}
use Rattle.line.specs.Meaning.{meaning, is_end, row_of}
use Rattle.line.specs.declared.meaning.Line.{Line}
use Rattle.text.specs.Outcome.{Outcome, good, fault, outcome}
use Rattle.text.specs.Candidate.{is_good, fault_line}
use Rattle.graph.specs.declared.build.TableMut.{TableMut}
use Rattle.memo.specs.declared.build.Operations.{Operations}
use Rattle.rows.specs.Naming.{NamedOf}
use Rattle.rows.specs.declared.naming.Sets.{Sets}
use Rattle.text.specs.declared.function.Function.{Function}

-- The node need of a text, and whether a point is both on and off: faulty texts have neither.
unfoldable pub need_of : Outcome → ℕ
need_of (good n t rs) = reading_need n t rs
need_of (fault k) = 0

unfoldable pub contradictory : Outcome → Bool
contradictory (good n t rs) = contradicts n t rs
contradictory (fault k) = false

-- What reading a function text asks: 10, at most 32,768 bytes; 2, three slices of one length, at most 4,096; 11, no fault; 7,
-- the nodes that the rows name fit the table; 12, no point is both on and off.
unfoldable pub function_conditions : List ℕ → List ℕ → List ℕ → List ℕ → List Condition
function_conditions text v l h =
    record { number = text_over; kept = leb (length text) 32768 } ∷
    record { number = table_over; kept = eqb (length l) (length v) && eqb (length h) (length v) && leb (length v) 4096 } ∷
    record { number = text_fault; kept = is_good (outcome 0 text) } ∷
    record { number = nodes_lack; kept = leb (need_of (outcome 0 text)) (length v) } ∷
    record { number = on_and_off; kept = not (contradictory (outcome 0 text)) } ∷ []

unfoldable pub function_refusal : List ℕ → List ℕ → List ℕ → List ℕ → ℕ
function_refusal text v l h = first_broken (function_conditions text v l h)

-- The numbers of an answer, as document 01 has them: the refusal or 0, what it returns, the columns, the count of records,
-- L and U.
pub record FunctionNumbers : Type 0 where
  pub refusal : ℕ
  pub returned : ℕ
  pub columns : ℕ
  pub count : ℕ
  pub lower : ℕ
  pub upper : ℕ

unfoldable pub function_numbers : Result Function Refused → FunctionNumbers
function_numbers (Ok f) =
    record { refusal = 0; returned = 0; columns = f.columns; count = f.count; lower = f.lower; upper = f.upper }
function_numbers (Err r) =
    record { refusal = number_of r.refusal; returned = r.returned; columns = 0; count = 0; lower = 0; upper = 0 }

-- What a refusal returns: 11 the line of the first fault, the others 0.
unfoldable pub function_returns : List ℕ → ℕ → ℕ
function_returns text r = cond (eqb r text_fault) (fault_line (outcome 0 text)) 0

-- What a refusal leaves of a slice: 10 and 2 change nothing, the others leave it all zero.
unfoldable pub table_left : ℕ → List ℕ → List ℕ
table_left r s = cond (eqb r text_over || eqb r table_over) s (cleared 0 s)

module _ (text : List ℕ) (v : List ℕ) (l : List ℕ) (h : List ℕ) (v' : List ℕ) (l' : List ℕ) (h' : List ℕ) where
  -- Refused: the number with what it returns, and the slices left as the number says.
  pub record NotRead (r : ℕ) (a : Result Function Refused) : Type 0 where
    pub answer : a ≡ Err (record { refusal = refusal_of r; returned = function_returns text r })
    pub numbers : function_numbers a
        ≡ record { refusal = r; returned = function_returns text r; columns = 0; count = 0; lower = 0; upper = 0 }
    pub level : v' ≡ table_left r v
    pub low : l' ≡ table_left r l
    pub high : h' ≡ table_left r h

  -- Done, for a text of n columns, type t and some rows: L and U have the functions that the rows mean; the records are the
  -- nodes that the rows name, in order; all past them is zero.
  pub record HasRead (n : ℕ) (t : Kind) (rows : List Row) (a : Result Function Refused) : Type 0 where
    pub count : ℕ
    pub lower : ℕ
    pub upper : ℕ
    pub answer : a ≡ Ok (record { columns = n; count = count; lower = lower; upper = upper })
    pub numbers : function_numbers a
        ≡ record { refusal = 0; returned = 0; columns = n; count = count; lower = lower; upper = upper }
    pub sound : Sound n count v' l' h'
    pub length-kept : length v' ≡ length v
    pub on : Names v' l' h' count 0 n (lower_of n t rows) lower
    pub on_or_dc : Names v' l' h' count 0 n (upper_of n t rows) upper
    pub adds : functions n (table_of v' l' h') count ≡ add_all [] (reading_names n t rows)
    pub level : v' ≡ cleared count v'
    pub low : l' ≡ cleared count l'
    pub high : h' ≡ cleared count h'

  -- What the entry promises.
  pub record ReadsFunction (a : Result Function Refused) : Type 0 where
    pub refused : (r : ℕ) → function_refusal text v l h ≡ suc r → NotRead (suc r) a
    pub done : function_refusal text v l h ≡ 0 → (n : ℕ) (t : Kind) (rows : List Row) → outcome 0 text ≡ good n t rows
        → HasRead n t rows a

-- The second pass: the row of a line, and the rows up to `.e`, for n columns.
unfoldable pub row_in : ℕ → Line → List Row
row_in n Line.Empty = []
row_in n (Line.Columns k) = []
row_in n Line.Output = []
row_in n (Line.Typed t) = []
row_in n (Line.Count k) = []
row_in n (Line.Row k x o) = row_of n x o ∷ []
row_in n Line.End = []
row_in n Line.Bad = []

unfoldable pub rows_in : ℕ → List (List ℕ) → List Row
rows_in n [] = []
rows_in n (l ∷ ls) = cond (is_end (meaning l)) [] (row_in n (meaning l) ++ rows_in n ls)

-- What building the function of some rows promises in a table of some length, before and after what is past the records is
-- cleared: L, U and their records, or the number of the first broken condition of 7 and 12.
unfoldable pub room_broken : (n : ℕ) → Kind → List Row → ℕ → ℕ
room_broken n t rows room =
    first_broken
    (record { number = nodes_lack; kept = leb (reading_need n t rows) room } ∷
    record { number = on_and_off; kept = not (contradicts n t rows) } ∷ [])

module _ (n : ℕ) (t : Kind) (rows : List Row) (room : ℕ) (v' : List ℕ) (l' : List ℕ) (h' : List ℕ) where
  pub record FunctionBuilt (k : ℕ) (c : ℕ) (a : ℕ) (b : ℕ) : Type 0 where
    pub kept : room_broken n t rows room ≡ 0
    pub columns : k ≡ n
    pub wide : length v' ≡ room
    pub sound : Sound n c v' l' h'
    pub on : Names v' l' h' c 0 n (lower_of n t rows) a
    pub on_or_dc : Names v' l' h' c 0 n (upper_of n t rows) b
    pub adds : functions n (table_of v' l' h') c ≡ add_all [] (reading_names n t rows)

  pub record FunctionLacks (r : ℕ) (x : ℕ) : Type 0 where
    pub broken : room_broken n t rows room ≡ r
    pub refused : 0 < r
    pub returned : x ≡ 0
    pub wide : length v' ≡ room
    pub sized : Sized 0 v' l' h'

  unfoldable pub BuiltOf : Result Function Refused → Type 0
  BuiltOf (Ok f) = FunctionBuilt f.columns f.count f.lower f.upper
  BuiltOf (Err r) = FunctionLacks (number_of r.refusal) r.returned

module _ (n : ℕ) (t : Kind) (rows : List Row) (v : List ℕ) (l : List ℕ) (h : List ℕ) (v' : List ℕ) (l' : List ℕ) (h' : List ℕ) where
  pub record Cleared (c : ℕ) (s : List ℕ) (p : List ℕ) (q : List ℕ) : Type 0 where
    pub level : v' ≡ cleared c s
    pub low : l' ≡ cleared c p
    pub high : h' ≡ cleared c q

  unfoldable pub SettledOf : Result Function Refused → Type 0
  SettledOf (Ok f) = FunctionBuilt n t rows (length v) v' l' h' f.columns f.count f.lower f.upper × Cleared f.count v' l' h'
  SettledOf (Err r) = FunctionLacks n t rows (length v) v' l' h' (number_of r.refusal) r.returned × Cleared 0 v l h

-- The same of a lent table. To begin with it has no records in use.
abbrev pub EmptyIn : TableMut → Type 0
EmptyIn t = (t.count ≡ 0) × Sound t.columns 0 t.level.now t.low.now t.high.now

abbrev pub RowsNamedIn : Operations → Kind → List Row → Operations → Option Sets → Type 0
RowsNamedIn o k rows o' r =
    let t = o.table.now in
    let t' = o'.table.now in
    NamedOf t.columns k rows (length t.level.now) t'.level.now t'.low.now t'.high.now t'.count r

-- L and U are named, or what the text names does not fit.
pub record RootsNamed (n : ℕ) (k : Kind) (rows : List Row) (room : ℕ) (v' : List ℕ) (l' : List ℕ) (h' : List ℕ) (c : ℕ) (a : ℕ) (b : ℕ) : Type 0 where
  pub wide : length v' ≡ room
  pub sound : Sound n c v' l' h'
  pub on : Names v' l' h' c 0 n (lower_of n k rows) a
  pub on_or_dc : Names v' l' h' c 0 n (upper_of n k rows) b
  pub adds : functions n (table_of v' l' h') c ≡ add_all [] (reading_names n k rows)

pub record RootsLack (n : ℕ) (k : Kind) (rows : List Row) (room : ℕ) (v' : List ℕ) (l' : List ℕ) (h' : List ℕ) : Type 0 where
  pub lacks : room < reading_need n k rows
  pub wide : length v' ≡ room
  pub sized : Sized 0 v' l' h'

module _ (t : TableMut) (k : Kind) (rows : List Row) (t' : TableMut) where
  unfoldable pub RootsNamedIn : Option (ℕ × ℕ) → Type 0
  RootsNamedIn (Some r) = RootsNamed t.columns k rows (length t.level.now) t'.level.now t'.low.now t'.high.now t'.count r.0 r.1
  RootsNamedIn None = RootsLack t.columns k rows (length t.level.now) t'.level.now t'.low.now t'.high.now

abbrev pub BuiltIn : TableMut → Kind → List Row → TableMut → Result Function Refused → Type 0
BuiltIn t k rows t' r = BuiltOf t.columns k rows (length t.level.now) t'.level.now t'.low.now t'.high.now r

abbrev pub SettledIn : TableMut → Kind → List Row → TableMut → Result Function Refused → Type 0
SettledIn t k rows t' r =
    SettledOf t.columns k rows t.level.now t.low.now t.high.now t'.level.now t'.low.now t'.high.now r
