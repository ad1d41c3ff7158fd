-- The entry of the checker: what it refuses, in which order, and what it answers.
use Rattle.std.specs.Prelude.{cond, List, [], ◌∷◌, ◌++◌, ℕ, zero, suc, eqb, length, Result, Ok, Err}
use Rattle.rule.specs.Func.{Fn}
use Rattle.rule.specs.Number.{first_malformed}
use Rattle.rule.specs.Verdict.{verdict_numbers}
use Rattle.rule.specs.Refusal.{first_broken, cube_malformed, refusal_of}
use Rattle.graph.specs.Table.{table_of, fn_of}
use Rattle.graph.specs.Entry.{input_conditions}
use Rattle.rule.specs.declared.refusal.Refused.{Refused}
use Rattle.graph.specs.declared.table.TableRef.{TableRef}
use Rattle.checker.specs.Judging.{Judged, judged_as}

module _ (n c : ℕ) (v l h : List ℕ) (a b : ℕ) (list : List ℕ) where
  -- L and U.
  unfoldable pub lower : Fn n
  lower = fn_of (table_of v l h) 0 n a

  unfoldable pub upper : Fn n
  upper = fn_of (table_of v l h) 0 n b

  -- The number of the first broken condition, or 0: those of the input, and last 9, no cube is malformed.
  unfoldable pub refusal : ℕ
  refusal = first_broken (input_conditions n c v l h a b (length list) ++ (record { number = cube_malformed; kept = eqb (first_malformed n list) 0 } ∷ []))

  -- The answer: number 9 returns the position of the first malformed cube, any other 0; else it is the rule's verdict.
  unfoldable pub answer_for : ℕ → Result Judged Refused
  answer_for zero = Ok (judged_as (verdict_numbers n lower upper list))
  answer_for (suc r) = Err (record { refusal = refusal_of (suc r); returned = cond (eqb (suc r) cube_malformed) (first_malformed n list) 0 })

-- The answer for a lent table.
abbrev pub answer_in : TableRef → ℕ → ℕ → List ℕ → Result Judged Refused
answer_in t a b list =
    answer_for t.columns t.count t.level.now t.low.now t.high.now a b list
    (refusal t.columns t.count t.level.now t.low.now t.high.now a b list)
