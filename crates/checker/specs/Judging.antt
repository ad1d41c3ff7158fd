-- The answer that stands for each verdict of the rule, and the numbers and values of each answer.
use Rattle.std.specs.Prelude.{[], ◌∷◌, ℕ, ◌+◌, Result, Ok, Err}
use Rattle.std.proofs.Math.Option.{Option, some, none}
use Rattle.rule.specs.Verdict.{Verdict, accept, off, missing, literal, cube, first_fault}
use Rattle.checker.specs.declared.fault.Fault.{Fault}
use Rattle.checker.specs.declared.fault.Fault.TheVariants.{Off, Missing, Literal, Cube}

abbrev pub Judged : Type 0
Judged = Result Unit Fault

unfoldable pub judged_as : Verdict → Judged
judged_as accept = Ok tt
judged_as (off c p) = Err (Off c p)
judged_as (missing p) = Err (Missing p)
judged_as (literal c k) = Err (Literal c k)
judged_as (cube c) = Err (Cube c)

-- The answer to one fault alone.
unfoldable pub judged_fault : Option Verdict → Judged
judged_fault v = judged_as (first_fault (v ∷ []))

-- What a search for a number answers: 0 where nothing was found, else the number and 1.
unfoldable pub place_number : Option ℕ → ℕ
place_number none = 0
place_number (some k) = k + 1
