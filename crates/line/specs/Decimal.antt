-- Decimal numbers: read from one to five digits, and written without leading zeros.
use Rattle.std.specs.Prelude.{Bool, true, cond, ◌&&◌, List, [], ◌∷◌, ◌++◌, ℕ, zero, suc, ◌+◌, ◌*◌, ◌-◌, ◌/◌, ◌%◌, leb, ltb, length, Option, Some, None}

-- Whether every byte passes a test.
unfoldable pub all : (ℕ → Bool) → List ℕ → Bool
all p [] = true
all p (b ∷ t) = p b && all p t

-- Whether a byte is a digit.
unfoldable pub is_digit : ℕ → Bool
is_digit b = leb 48 b && leb b 57

-- The value of digits that follow others of value v.
unfoldable pub value_after : ℕ → List ℕ → ℕ
value_after v [] = v
value_after v (b ∷ t) = value_after (10 * v + (b - 48)) t

-- The number that a field is: one to five digits.
unfoldable pub is_number : List ℕ → Bool
is_number f = leb 1 (length f) && leb (length f) 5 && all is_digit f

unfoldable pub number : List ℕ → Option ℕ
number f = cond (is_number f) (Some (value_after 0 f)) None

-- A digit's byte.
unfoldable pub digit : ℕ → ℕ
digit n = 48 + n

-- The last k + 1 digits of a number, without leading zeros.
unfoldable pub decimal_of : ℕ → ℕ → List ℕ
decimal_of zero n = digit (n % 10) ∷ []
decimal_of (suc k) n = cond (ltb n 10) (digit n ∷ []) (decimal_of k (n / 10) ++ (digit (n % 10) ∷ []))

-- A number below 100,000 in decimal.
unfoldable pub decimal : ℕ → List ℕ
decimal n = decimal_of 4 n
