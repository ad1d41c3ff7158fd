-- How an answer is told in numbers: a status as the result, the other numbers in a lent array.
use Rattle.std.specs.Prelude.{◌≡◌, Bool, cond, List, [], ◌∷◌, ℕ, Result, Ok, Err}
use Rattle.graph.specs.Entry.{numbers_of, value_of}
use Rattle.rule.specs.Refusal.{number_of}
use Rattle.rule.specs.declared.refusal.Refusal.{Refusal}
use Rattle.rule.specs.declared.refusal.Refused.{Refused}
use Rattle.list.specs.Entry as list
use Rattle.checker.specs.Judging.{Judged}
use Rattle.checker.specs.declared.fault.Fault.TheVariants.{Off, Missing, Literal, Cube}
use Rattle.text.specs.Writing as writing
use Rattle.text.specs.Candidate.{read_numbers}
use Rattle.text.specs.Function.{function_numbers}
use Rattle.text.specs.declared.function.Function.{Function}

-- What the array of an operation holds: the root, then the count of records in use after it.
unfoldable pub root_and_count : Result ℕ Refusal → ℕ → List ℕ
root_and_count a c = (numbers_of a c).root ∷ (numbers_of a c).count ∷ []

-- What the array of a value holds: the value at the point, as 0 or 1.
unfoldable pub value_alone : Result Bool Refusal → List ℕ
value_alone a = cond (value_of a).1 1 0 ∷ []

-- What the array of the generator holds: what a refusal returns, then the length of the list.
unfoldable pub returned_and_length : Result ℕ Refused → List ℕ
returned_and_length a = (list.numbers_of a).returned ∷ (list.numbers_of a).length ∷ []

-- What is told of a check: the refusal or 0; the kind of the verdict (0 accept, 1 off, 2 missing, 3 literal, 4 cube), or
-- at a refusal what it returns; and the verdict's values in document 01's order, 0 for each that it lacks.
pub record VerdictNumbers : Type 0 where
  pub refusal : ℕ
  pub kind : ℕ
  pub value₁ : ℕ
  pub value₂ : ℕ

unfoldable pub verdict_numbers_of : Result Judged Refused → VerdictNumbers
verdict_numbers_of (Ok (Ok x)) = record { refusal = 0; kind = 0; value₁ = 0; value₂ = 0 }
verdict_numbers_of (Ok (Err (Off c p))) = record { refusal = 0; kind = 1; value₁ = c; value₂ = p }
verdict_numbers_of (Ok (Err (Missing p))) = record { refusal = 0; kind = 2; value₁ = p; value₂ = 0 }
verdict_numbers_of (Ok (Err (Literal c k))) = record { refusal = 0; kind = 3; value₁ = c; value₂ = k }
verdict_numbers_of (Ok (Err (Cube c))) = record { refusal = 0; kind = 4; value₁ = c; value₂ = 0 }
verdict_numbers_of (Err r) = record { refusal = number_of r.refusal; kind = r.returned; value₁ = 0; value₂ = 0 }

-- What the array of the checker holds: the kind, then the two values.
unfoldable pub kind_and_values : Result Judged Refused → List ℕ
kind_and_values a = (verdict_numbers_of a).kind ∷ (verdict_numbers_of a).value₁ ∷ (verdict_numbers_of a).value₂ ∷ []

-- What the array of the writing holds: what a refusal returns, then the bytes written.
unfoldable pub returned_and_written : Result ℕ Refused → List ℕ
returned_and_written a = (writing.numbers_of a).returned ∷ (writing.numbers_of a).written ∷ []

-- What the array of a candidate's reading holds: what a refusal returns, then the number of rows.
unfoldable pub returned_and_rows : Result ℕ Refused → List ℕ
returned_and_rows a = (read_numbers a).returned ∷ (read_numbers a).rows ∷ []

-- What the array of a function text's reading holds: what a refusal returns, the columns, the count of records, L and U.
unfoldable pub returned_and_function : Result Function Refused → List ℕ
returned_and_function a =
    (function_numbers a).returned ∷
    (function_numbers a).columns ∷
    (function_numbers a).count ∷
    (function_numbers a).lower ∷
    (function_numbers a).upper ∷ []

-- The status is the answer's refusal or 0, and the array holds its other numbers.
pub record Told (a : Result ℕ Refusal) (c : ℕ) (status : ℕ) (out : List ℕ) : Type 0 where
  pub refusal : status ≡ (numbers_of a c).refusal
  pub numbers : out ≡ root_and_count a c

-- The same of a value.
pub record ToldValue (a : Result Bool Refusal) (status : ℕ) (out : List ℕ) : Type 0 where
  pub refusal : status ≡ (value_of a).0
  pub numbers : out ≡ value_alone a

-- The same of a generation.
pub record ToldList (a : Result ℕ Refused) (status : ℕ) (out : List ℕ) : Type 0 where
  pub refusal : status ≡ (list.numbers_of a).refusal
  pub numbers : out ≡ returned_and_length a

-- The same of a check.
pub record ToldVerdict (a : Result Judged Refused) (status : ℕ) (out : List ℕ) : Type 0 where
  pub refusal : status ≡ (verdict_numbers_of a).refusal
  pub numbers : out ≡ kind_and_values a

-- The same of a writing.
pub record ToldWritten (a : Result ℕ Refused) (status : ℕ) (out : List ℕ) : Type 0 where
  pub refusal : status ≡ (writing.numbers_of a).refusal
  pub numbers : out ≡ returned_and_written a

-- The same of a candidate's reading.
pub record ToldCandidate (a : Result ℕ Refused) (status : ℕ) (out : List ℕ) : Type 0 where
  pub refusal : status ≡ (read_numbers a).refusal
  pub numbers : out ≡ returned_and_rows a

-- The same of a function text's reading.
pub record ToldFunction (a : Result Function Refused) (status : ℕ) (out : List ℕ) : Type 0 where
  pub refusal : status ≡ (function_numbers a).refusal
  pub numbers : out ≡ returned_and_function a
