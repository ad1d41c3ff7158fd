-- The meaning of a line by itself: function texts, candidates and the place where a function text ends all use it.
use Rattle.std.specs.Prelude.{Bool, true, false, cond, ◌&&◌, ◌||◌, List, [], ◌∷◌, map, ℕ, ◌+◌, eqb, leb, length, drop, Option, Some, None}
use Rattle.rule.specs.Cube.{Sign, sign0, sign1, dash, Cube}
use Rattle.rule.specs.Number.{cube_number, signs}
use Rattle.rule.specs.Rows as Rows
use Rattle.line.specs.Bytes.{is, fields, lines}
use Rattle.line.specs.Decimal.{number, all}
use Rattle.line.specs.declared.meaning.Kind.{Kind}
use Rattle.line.specs.declared.meaning.Kind.TheVariants.{F, Fd, Fr}
use Rattle.line.specs.declared.meaning.Out.{Out}
use Rattle.line.specs.declared.meaning.Out.TheVariants.{Zero, One, Dash, Tilde}
use Rattle.line.specs.declared.meaning.Line.{Line}
use Rattle.line.specs.declared.meaning.Line.TheVariants.{Empty, Columns, Output, Typed, Count, Row, End, Bad}

-- The signs of a row: 0, 1, -, and 2, which means -.
unfoldable pub is_sign : ℕ → Bool
is_sign b = eqb b 48 || eqb b 49 || eqb b 45 || eqb b 50

unfoldable pub read_sign : ℕ → Sign
read_sign b = cond (eqb b 48) sign0 (cond (eqb b 49) sign1 dash)

-- `.i N`, N from 1 to 16.
unfoldable pub columns_line : Option ℕ → Line
columns_line (Some n) = cond (leb 1 n && leb n 16) (Columns n) Bad
columns_line None = Bad

-- `.o 1`
unfoldable pub output_line : List ℕ → Line
output_line b = cond (is "1" b) Output Bad

-- `.type f`, `fd` or `fr`
unfoldable pub kind_line : List ℕ → Line
kind_line b = cond (is "f" b) (Typed F) (cond (is "fd" b) (Typed Fd) (cond (is "fr" b) (Typed Fr) Bad))

-- `.p N`
unfoldable pub count_line : Option ℕ → Line
count_line (Some n) = Count n
count_line None = Bad

-- A row of n signs with cube number x and one output sign out of 0, 1, -, ~.
unfoldable pub signed_line : ℕ → ℕ → List ℕ → Line
signed_line n x b =
    cond (is "0" b) (Row n x Zero) (cond (is "1" b) (Row n x One) (cond (is "-" b) (Row n x Dash) (cond (is "~" b) (Row n x Tilde) Bad)))

-- A row: its signs, at most 16 as no text has more columns, and its output sign.
unfoldable pub is_cube : List ℕ → Bool
is_cube a = leb (length a) 16 && all is_sign a

unfoldable pub read_cube : List ℕ → Cube
read_cube a = map read_sign a

unfoldable pub row_line : List ℕ → List ℕ → Line
row_line a b = cond (is_cube a) (signed_line (length a) (cube_number (read_cube a)) b) Bad

-- A line of two fields: a directive with its value, or a row.
unfoldable pub pair_line : List ℕ → List ℕ → Line
pair_line a b =
    cond (is ".i" a) (columns_line (number b))
    (cond (is ".o" a) (output_line b)
    (cond (is ".type" a) (kind_line b)
    (cond (is ".p" a) (count_line (number b)) (row_line a b))))

-- A line of one field: `.e`.
unfoldable pub single_line : List ℕ → Line
single_line a = cond (is ".e" a) End Bad

-- The meaning of fields, and of a line.
unfoldable pub meaning_of : List (List ℕ) → Line
meaning_of [] = Empty
meaning_of (a ∷ []) = single_line a
meaning_of (a ∷ b ∷ []) = pair_line a b
meaning_of (a ∷ b ∷ d ∷ fs) = Bad

unfoldable pub meaning : List ℕ → Line
meaning line = meaning_of (fields line)

-- Whether a line is `.e`.
unfoldable pub is_end : Line → Bool
is_end Empty = false
is_end (Columns n) = false
is_end Output = false
is_end (Typed t) = false
is_end (Count n) = false
is_end (Row n x o) = false
is_end End = true
is_end Bad = false

-- The bytes of the lines up to the first `.e` line, itself included, each with its byte 10; all of them without `.e`.
unfoldable pub bytes_to_end : List (List ℕ) → ℕ
bytes_to_end [] = 0
bytes_to_end (l ∷ ls) = cond (is_end (meaning l)) (length l + 1) (length l + 1 + bytes_to_end ls)

-- What follows the first `.e` line of a text: nothing without one.
unfoldable pub after_end : List ℕ → List ℕ
after_end text = drop (bytes_to_end (lines text)) text

-- The type and the output sign by `rule`'s names.
unfoldable pub kind_of : Kind → Rows.Kind
kind_of F = Rows.f
kind_of Fd = Rows.fd
kind_of Fr = Rows.fr

unfoldable pub out_of : Out → Rows.Out
out_of Zero = Rows.out0
out_of One = Rows.out1
out_of Dash = Rows.out_dash
out_of Tilde = Rows.out_tilde

-- The row of n signs with cube number x and an output sign.
unfoldable pub row_of : ℕ → ℕ → Out → Rows.Row
row_of n x o = record { cube = signs n x; out = out_of o }
