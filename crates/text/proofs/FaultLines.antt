-- The line of a text's fault is at least 1 and at most one past its last line.
use mathlib.Core.Path.{◌≡◌}
use mathlib.Core.Bool.{Bool, true, false, cond}
use mathlib.Core.List.{List, [], ◌∷◌}
use Prim.Native.Nat.{ℕ, suc, ◌+◌, ◌≤◌}
use native.Mathlib.Omega.{arith}
use lib.ListN.{length}
use Rattle.std.specs.Prelude.{Some, None}
use Rattle.rule.specs.Rows as Rows
use Rattle.line.specs.Bytes.{lines}
use Rattle.line.specs.Meaning.{meaning, kind_of, row_of}
use Rattle.line.specs.declared.meaning.Line.{Line}
use Rattle.line.specs.declared.meaning.Line.TheVariants.{Empty, Columns, Output, Typed, Count, Row, End, Bad}
use Rattle.text.specs.Outcome.{Outcome, good, fault, start, step, complete, kind_or_fd, end_with, finish, put_row, add_row, follow, run, outcome}
use Rattle.text.specs.declared.judge.State.{State}
use Rattle.text.specs.declared.judge.Step.{Step}
use Rattle.text.specs.declared.judge.Step.TheVariants.{On, Fault, Ended}

-- A fault's line lies between two.
abbrev Between : ℕ → ℕ → Outcome → Type 0
Between i j w = (k : ℕ) → w ≡ fault k → (i ≤ k) × (k ≤ j)

same_line : (i k : ℕ) → fault i ≡ fault k → i ≡ k
same_line i k e = cc

finish_between : (s : State) (i j : ℕ) → i ≤ j → Between i j (finish s i)
unfolding finish end_with
finish_between s i j h = elim s.columns as (λ c. Between i j (end_with c s i)) [ Some n ↦ go n (complete s) | None ↦ here ]
  where
    here : Between i j (fault i)
    here k e = let f = same_line i k e in (omega arith, omega arith)

    go : (n : ℕ) (q : Bool) → Between i j (cond q (good n (kind_of (kind_or_fd s.kind)) []) (fault i))
    go n true k e = absurd (cc)
    go n false k e = here k e

put_between : (i j : ℕ) (r : Rows.Row) (w : Outcome) → Between i j w → Between i j (put_row r w)
unfolding put_row
put_between i j r (good n t rs) h k e = absurd (cc)
put_between i j r (fault m) h k e = h k e

add_between : (i j : ℕ) (l : Line) (w : Outcome) → Between i j w → Between i j (add_row l w)
unfolding add_row
add_between i j Empty w h = h
add_between i j (Columns n) w h = h
add_between i j Output w h = h
add_between i j (Typed t) w h = h
add_between i j (Count n) w h = h
add_between i j (Row n x o) w h = put_between i j (row_of n x o) w h
add_between i j End w h = h
add_between i j Bad w h = h

run_between : (asked : ℕ) (s : State) (i : ℕ) (ls : List (List ℕ)) → Between i (i + length ls) (run asked s i ls)
unfolding run follow
run_between asked s i [] = finish_between s i (i + 0) (omega arith)
run_between asked s i (l ∷ ls) =
    go (step asked s (meaning l)) (λ s'. run_between asked s' (i + 1) ls)
  where
    wider : (w : Outcome) → Between (i + 1) (i + 1 + length ls) w → Between i (i + suc (length ls)) w
    wider w h k e = let b = h k e in (omega arith, omega arith)

    go : (t : Step) → ((s' : State) → Between (i + 1) (i + 1 + length ls) (run asked s' (i + 1) ls))
        → Between i (i + suc (length ls)) (follow t i (finish s i) (λ s'. run asked s' (i + 1) ls) (meaning l))
    go (On s') h = add_between i (i + suc (length ls)) (meaning l) (run asked s' (i + 1) ls) (wider (run asked s' (i + 1) ls) (h s'))
    go Fault h = λ k e. let f = same_line i k e in (omega arith, omega arith)
    go Ended h = finish_between s i (i + suc (length ls)) (omega arith)

-- The theorem.
pub fault-line : (asked : ℕ) (text : List ℕ) (k : ℕ) → outcome asked text ≡ fault k → (1 ≤ k) × (k ≤ length (lines text) + 1)
unfolding outcome
fault-line asked text k e = let b = run_between asked start 1 (lines text) k e in (omega arith, omega arith)
