-- Taking the next line of a text: what it means, what is left after it, and where the line after it begins.
use Rattle.std.specs.Prelude.{cond, List, [], ◌∷◌, ℕ, ◌+◌, ltb, length, drop, Option, Some, None, unwrap_or}
use Rattle.line.specs.Bytes.{is_newline, until}
use Rattle.line.specs.Meaning.{meaning}
use Rattle.line.specs.declared.meaning.Line.{Line}
use Rattle.line.specs.declared.meaning.Line.TheVariants.{Empty}

-- The meaning of the first line, without its byte 10; an empty text has none.
unfoldable pub next_line : List ℕ → Option Line
next_line [] = None
next_line (b ∷ t) = Some (meaning (until is_newline (b ∷ t)))

-- What follows that line and its byte 10.
unfoldable pub rest_after : List ℕ → List ℕ
rest_after text = drop (length (until is_newline text) + 1) text

-- The line that begins at a place, without its byte 10; past the end it is empty.
unfoldable pub line_at : List ℕ → ℕ → List ℕ
line_at text at = until is_newline (drop at text)

-- The place after that line and its byte 10, or the end.
unfoldable pub place_after : List ℕ → ℕ → ℕ
place_after text at = cond (ltb (at + length (line_at text at)) (length text)) (at + length (line_at text at) + 1) (length text)

-- The meaning of a line, and the place of the line after it.
pub record Taken : Type 0 where
  pub line : Line
  pub next : ℕ

unfoldable pub taken_at : List ℕ → ℕ → Taken
taken_at text at = record { line = meaning (line_at text at); next = place_after text at }

-- What a reader's answer and its place tell of the line taken: none is an empty line.
abbrev pub told_at : Option Line → ℕ → Taken
told_at answer next = record { line = unwrap_or answer Empty; next = next }
