-- Each case of an answer, told: the numbers are those that the case has by definition.
use mathlib.Core.Path.{◌≡◌, refl, subst⁻¹}
use mathlib.Core.Bool.{Bool, true, false}
use mathlib.Core.List.{[], ◌∷◌}
use Prim.Native.Nat.{ℕ}
use mir.Val.{bool_byte}
use Rattle.std.specs.Prelude.{Result, Ok, Err}
use Rattle.rule.specs.Refusal.{number_of}
use Rattle.rule.specs.declared.refusal.Refusal.{Refusal}
use Rattle.rule.specs.declared.refusal.Refused.{Refused}
use Rattle.graph.specs.Entry.{numbers_of, value_of}
use Rattle.list.specs.Entry as list
use Rattle.checker.specs.Judging.{Judged}
use Rattle.checker.specs.declared.fault.Fault.TheVariants.{Off, Missing, Literal, Cube}
use Rattle.text.specs.Writing as writing
use Rattle.text.specs.Candidate.{read_numbers}
use Rattle.text.specs.Function.{function_numbers}
use Rattle.text.specs.declared.function.Function.{Function}
use Rattle.telling.specs.Told.{root_and_count, value_alone, returned_and_length, verdict_numbers_of, kind_and_values, returned_and_written, returned_and_rows}
use Rattle.telling.specs.Told.{returned_and_function, Told, ToldValue, ToldList, ToldVerdict, ToldWritten, ToldCandidate, ToldFunction}

-- An operation, with the count of records in use beside its answer.
module _ {a : Result ℕ Refusal} {c : ℕ} where
  pub done-told : {x : ℕ} → a ≡ Ok x → Told a c 0 (x ∷ c ∷ [])
  unfolding numbers_of root_and_count
  done-told {x} e = subst⁻¹ (λ a. Told a c 0 (x ∷ c ∷ [])) e (record { refusal = refl; numbers = refl })

  pub refused-told : {r : Refusal} → a ≡ Err r → Told a c (number_of r) (0 ∷ c ∷ [])
  unfolding numbers_of root_and_count
  refused-told {r} e = subst⁻¹ (λ a. Told a c (number_of r) (0 ∷ c ∷ [])) e (record { refusal = refl; numbers = refl })

module _ {a : Result Bool Refusal} where
  -- A truth value is stored as its byte.
  pub value_told : {b : Bool} → a ≡ Ok b → ToldValue a 0 (bool_byte b ∷ [])
  unfolding value_of value_alone
  value_told {b} e = go b e
    where
      go : (b : Bool) → a ≡ Ok b → ToldValue a 0 (bool_byte b ∷ [])
      go true e = subst⁻¹ (λ a. ToldValue a 0 (1 ∷ [])) e (record { refusal = refl; numbers = refl })
      go false e = subst⁻¹ (λ a. ToldValue a 0 (0 ∷ [])) e (record { refusal = refl; numbers = refl })

  pub denied_told : {r : Refusal} → a ≡ Err r → ToldValue a (number_of r) (0 ∷ [])
  unfolding value_of value_alone
  denied_told {r} e = subst⁻¹ (λ a. ToldValue a (number_of r) (0 ∷ [])) e (record { refusal = refl; numbers = refl })

module _ {a : Result ℕ Refused} where
  pub list-told : {n : ℕ} → a ≡ Ok n → ToldList a 0 (0 ∷ n ∷ [])
  unfolding list.numbers_of returned_and_length
  list-told {n} e = subst⁻¹ (λ a. ToldList a 0 (0 ∷ n ∷ [])) e (record { refusal = refl; numbers = refl })

  pub list-refused-told : {r : Refused} → a ≡ Err r → ToldList a (number_of r.refusal) (r.returned ∷ 0 ∷ [])
  unfolding list.numbers_of returned_and_length
  list-refused-told {r} e = subst⁻¹ (λ a. ToldList a (number_of r.refusal) (r.returned ∷ 0 ∷ [])) e (record { refusal = refl; numbers = refl })

  pub written-told : {n : ℕ} → a ≡ Ok n → ToldWritten a 0 (0 ∷ n ∷ [])
  unfolding writing.numbers_of returned_and_written
  written-told {n} e = subst⁻¹ (λ a. ToldWritten a 0 (0 ∷ n ∷ [])) e (record { refusal = refl; numbers = refl })

  pub written-refused-told : {r : Refused} → a ≡ Err r → ToldWritten a (number_of r.refusal) (r.returned ∷ 0 ∷ [])
  unfolding writing.numbers_of returned_and_written
  written-refused-told {r} e = subst⁻¹ (λ a. ToldWritten a (number_of r.refusal) (r.returned ∷ 0 ∷ [])) e (record { refusal = refl; numbers = refl })

  pub candidate_told : {n : ℕ} → a ≡ Ok n → ToldCandidate a 0 (0 ∷ n ∷ [])
  unfolding read_numbers returned_and_rows
  candidate_told {n} e = subst⁻¹ (λ a. ToldCandidate a 0 (0 ∷ n ∷ [])) e (record { refusal = refl; numbers = refl })

  pub candidate_refused-told : {r : Refused} → a ≡ Err r → ToldCandidate a (number_of r.refusal) (r.returned ∷ 0 ∷ [])
  unfolding read_numbers returned_and_rows
  candidate_refused-told {r} e = subst⁻¹ (λ a. ToldCandidate a (number_of r.refusal) (r.returned ∷ 0 ∷ [])) e (record { refusal = refl; numbers = refl })

module _ {a : Result Judged Refused} where
  pub accept-told : {x : Unit} → a ≡ Ok (Ok x) → ToldVerdict a 0 (0 ∷ 0 ∷ 0 ∷ [])
  unfolding verdict_numbers_of kind_and_values
  accept-told e = subst⁻¹ (λ a. ToldVerdict a 0 (0 ∷ 0 ∷ 0 ∷ [])) e (record { refusal = refl; numbers = refl })

  pub off-told : {c : ℕ} {p : ℕ} → a ≡ Ok (Err (Off c p)) → ToldVerdict a 0 (1 ∷ c ∷ p ∷ [])
  unfolding verdict_numbers_of kind_and_values
  off-told {c} {p} e = subst⁻¹ (λ a. ToldVerdict a 0 (1 ∷ c ∷ p ∷ [])) e (record { refusal = refl; numbers = refl })

  pub missing-told : {p : ℕ} → a ≡ Ok (Err (Missing p)) → ToldVerdict a 0 (2 ∷ p ∷ 0 ∷ [])
  unfolding verdict_numbers_of kind_and_values
  missing-told {p} e = subst⁻¹ (λ a. ToldVerdict a 0 (2 ∷ p ∷ 0 ∷ [])) e (record { refusal = refl; numbers = refl })

  pub literal-told : {c : ℕ} {k : ℕ} → a ≡ Ok (Err (Literal c k)) → ToldVerdict a 0 (3 ∷ c ∷ k ∷ [])
  unfolding verdict_numbers_of kind_and_values
  literal-told {c} {k} e = subst⁻¹ (λ a. ToldVerdict a 0 (3 ∷ c ∷ k ∷ [])) e (record { refusal = refl; numbers = refl })

  pub cube-told : {c : ℕ} → a ≡ Ok (Err (Cube c)) → ToldVerdict a 0 (4 ∷ c ∷ 0 ∷ [])
  unfolding verdict_numbers_of kind_and_values
  cube-told {c} e = subst⁻¹ (λ a. ToldVerdict a 0 (4 ∷ c ∷ 0 ∷ [])) e (record { refusal = refl; numbers = refl })

  pub check_refused-told : {r : Refused} → a ≡ Err r → ToldVerdict a (number_of r.refusal) (r.returned ∷ 0 ∷ 0 ∷ [])
  unfolding verdict_numbers_of kind_and_values
  check_refused-told {r} e = subst⁻¹ (λ a. ToldVerdict a (number_of r.refusal) (r.returned ∷ 0 ∷ 0 ∷ [])) e (record { refusal = refl; numbers = refl })

module _ {a : Result Function Refused} where
  pub function_told : {n : ℕ} {c : ℕ} {x : ℕ} {y : ℕ} → a ≡ Ok (record { columns = n; count = c; lower = x; upper = y }) → ToldFunction a 0 (0 ∷ n ∷ c ∷ x ∷ y ∷ [])
  unfolding function_numbers returned_and_function
  function_told {n} {c} {x} {y} e =
      subst⁻¹ (λ a. ToldFunction a 0 (0 ∷ n ∷ c ∷ x ∷ y ∷ [])) e (record { refusal = refl; numbers = refl })

  pub function_refused-told : {r : Refused} → a ≡ Err r → ToldFunction a (number_of r.refusal) (r.returned ∷ 0 ∷ 0 ∷ 0 ∷ 0 ∷ [])
  unfolding function_numbers returned_and_function
  function_refused-told {r} e =
      subst⁻¹ (λ a. ToldFunction a (number_of r.refusal) (r.returned ∷ 0 ∷ 0 ∷ 0 ∷ 0 ∷ [])) e (record { refusal = refl; numbers = refl })
