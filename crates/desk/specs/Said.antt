-- The one-line answers: a refusal and a verdict. Numbers are decimal, cubes and columns count from 1, a point is its columns'
-- digits.
use Rattle.std.specs.Prelude.{List, [], ◌∷◌, map, ℕ, ◌+◌}
use Rattle.rule.specs.Point.{digits, bit}
use Rattle.rule.specs.Verdict.{Verdict, accept, off, missing, literal, cube}
use Rattle.line.specs.Bytes.{bytes}
use Rattle.line.specs.Decimal.{digit, decimal_of}
use Rattle.text.specs.Writing.{joined}

-- A number below 10,000,000,000 in decimal, without leading zeros.
unfoldable pub numeral : ℕ → List ℕ
numeral n = decimal_of 9 n

-- The digits of a point of n columns, leftmost column first.
unfoldable pub point_text : ℕ → ℕ → List ℕ
point_text n p = map (λ b. digit (bit b)) (digits n p)

-- `refused N M`: the number and what it returns.
unfoldable pub refused_text : ℕ → ℕ → List ℕ
refused_text r m = joined (bytes "refused " ∷ numeral r ∷ bytes " " ∷ numeral m ∷ bytes "\n" ∷ [])

-- The verdict on a list for n columns. The rule names columns from 0, the line from 1.
unfoldable pub verdict_text : ℕ → Verdict → List ℕ
verdict_text n accept = bytes "accept\n"
verdict_text n (off c p) = joined (bytes "off " ∷ numeral c ∷ bytes " " ∷ point_text n p ∷ bytes "\n" ∷ [])
verdict_text n (missing p) = joined (bytes "missing " ∷ point_text n p ∷ bytes "\n" ∷ [])
verdict_text n (literal c k) = joined (bytes "literal " ∷ numeral c ∷ bytes " " ∷ numeral (k + 1) ∷ bytes "\n" ∷ [])
verdict_text n (cube c) = joined (bytes "cube " ∷ numeral c ∷ bytes "\n" ∷ [])
