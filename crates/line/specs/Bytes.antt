-- Bytes to lines, and a line to its fields.
use Rattle.std.specs.Prelude.{Bool, true, false, cond, ◌||◌, List, [], ◌∷◌, ℕ, eqb}
use Prim.Native.String.{String, [] as ε, ◌∷◌ as ◌◁◌}
use Prim.Native.Char.{code}
use Rattle.rule.specs.Marked.{same_list}

-- The bytes of a word.
unfoldable pub bytes : String → List ℕ
bytes ε = []
bytes (c ◁ s) = code c ∷ bytes s

-- Whether a field is a word, byte for byte.
unfoldable pub is : String → List ℕ → Bool
is w f = same_list eqb (bytes w) f

-- The bytes with a role: byte 10 ends a line, "#" drops the rest of its line, spaces and tabs separate fields.
unfoldable pub is_newline : ℕ → Bool
is_newline b = eqb b 10

unfoldable pub is_hash : ℕ → Bool
is_hash b = eqb b 35

unfoldable pub is_blank : ℕ → Bool
is_blank b = eqb b 32 || eqb b 9

-- The bytes before the first that passes a test, and the bytes from it on.
unfoldable pub until : (ℕ → Bool) → List ℕ → List ℕ
until p [] = []
until p (b ∷ t) = cond (p b) [] (b ∷ until p t)

unfoldable pub from : (ℕ → Bool) → List ℕ → List ℕ
from p [] = []
from p (b ∷ t) = cond (p b) (b ∷ t) (from p t)

-- A byte put before pieces: it ends a piece, or belongs to the first.
unfoldable pub put_byte : Bool → ℕ → List (List ℕ) → List (List ℕ)
put_byte true b ps = [] ∷ ps
put_byte false b [] = (b ∷ []) ∷ []
put_byte false b (p ∷ ps) = (b ∷ p) ∷ ps

-- The pieces that the bytes passing a test end, and what is left after the last of them if it is not empty.
unfoldable pub split : (ℕ → Bool) → List ℕ → List (List ℕ)
split p [] = []
split p (b ∷ t) = put_byte (p b) b (split p t)

-- The lines of a text.
unfoldable pub lines : List ℕ → List (List ℕ)
lines text = split is_newline text

-- The pieces that are not empty.
unfoldable pub keep : List ℕ → List (List ℕ) → List (List ℕ)
keep [] ps = ps
keep (b ∷ p) ps = (b ∷ p) ∷ ps

unfoldable pub filled : List (List ℕ) → List (List ℕ)
filled [] = []
filled (p ∷ ps) = keep p (filled ps)

-- The fields that blanks leave, and those of a line: "#" and the rest are dropped.
unfoldable pub words : List ℕ → List (List ℕ)
words s = filled (split is_blank s)

unfoldable pub fields : List ℕ → List (List ℕ)
fields line = words (until is_hash line)
