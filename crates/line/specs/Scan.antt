-- What the scanning functions answer, in the words of `Bytes`.
use Rattle.std.specs.Prelude.{Bool, not, List, ℕ}
use Rattle.line.specs.Bytes.{is_newline, is_hash, is_blank, until, from}
use Rattle.line.specs.declared.scan.Class.{Class}
use Rattle.line.specs.declared.scan.Class.TheVariants.{Newline, Hash, Blank, Filled}

-- The test of each class of bytes.
unfoldable pub is_filled : ℕ → Bool
is_filled b = not (is_blank b)

unfoldable pub test_of : Class → ℕ → Bool
test_of Newline = is_newline
test_of Hash = is_hash
test_of Blank = is_blank
test_of Filled = is_filled

-- The first field of some bytes, and what follows it.
unfoldable pub first_field : List ℕ → List ℕ
first_field s = until is_blank (from is_filled s)

unfoldable pub rest_fields : List ℕ → List ℕ
rest_fields s = from is_blank (from is_filled s)
