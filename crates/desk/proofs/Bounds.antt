-- Every answer has at least one byte and fits the answer room; so what a program's function returns counts bytes of that room.
use mathlib.Core.Path.{◌≡◌, refl, ap}
use mathlib.Core.Bool.{Bool, true, false, cond}
use mathlib.Core.List.{List, [], ◌∷◌, ◌++◌}
use Prim.Native.Nat.{ℕ, zero, suc, ◌-◌, ◌≤◌}
use native.Mathlib.Omega.{arith}
use lib.Dec.{leb}
use lib.ListN.{length, replicate, length-append}
use borrow.Author.Tests.{leb-true}
use Rattle.rule.specs.Nodes.{add_all, need}
use Rattle.rule.specs.Refusal.{first_broken}
use Rattle.rule.specs.Rows.{Kind, Row, lower_of, upper_of, reading_names}
use Rattle.rule.specs.Verdict.{Verdict, accept, off, missing, literal, cube}
use Rattle.rule.proofs.Bools.{clash}
use Rattle.line.specs.Bytes.{bytes}
use Rattle.line.specs.Meaning.{after_end}
use Rattle.text.specs.Outcome.{Outcome, good, fault, outcome}
use Rattle.text.specs.Candidate.{is_good, read_conditions}
use Rattle.text.specs.Room.{padded}
use Rattle.text.specs.Writing.{joined}
use Rattle.text.proofs.Written.{length_text}
use Rattle.desk.specs.Said.{numeral, point_text, refused_text, verdict_text}
use Rattle.desk.specs.Answer.{input_refusal, answer_by, rows_list, list_refusal, list_said, list_answer, candidate_said, check_answer, answer_room, Answers}
use Rattle.desk.proofs.Saying.{length-numeral, length_point}
use Rattle.desk.proofs.Reading.{kept_first, kept-good, good-columns}
use Rattle.desk.proofs.Listed.{text_fits}

-- At least one byte, and no more than the room.
pub record Inside (w : List ℕ) : Type 0 where
  pub some : 1 ≤ length w
  pub fits : length w ≤ answer_room

-- Lines of three and of five parts.
line_inside : (w p : List ℕ) → length w ≤ 8 → length p ≤ 16 → Inside (joined (w ∷ p ∷ bytes "\n" ∷ []))
unfolding joined bytes
line_inside w p h k =
    let a = length-append w (p ++ (bytes "\n" ++ [])) in
    let b = length-append p (bytes "\n" ++ []) in
    record { some = omega arith; fits = omega arith }

two_inside : (w p q : List ℕ) → length w ≤ 8 → length p ≤ 16 → length q ≤ 16 → Inside (joined (w ∷ p ∷ bytes " " ∷ q ∷ bytes "\n" ∷ []))
unfolding joined bytes
two_inside w p q h k l =
    let a = length-append w (p ++ (bytes " " ++ (q ++ (bytes "\n" ++ [])))) in
    let b = length-append p (bytes " " ++ (q ++ (bytes "\n" ++ []))) in
    let c = length-append q (bytes "\n" ++ []) in
    record { some = omega arith; fits = omega arith }

numeral-short : (n : ℕ) → length (numeral n) ≤ 16
numeral-short n = omega (arith, length-numeral n)

point_short : (n p : ℕ) → n ≤ 16 → length (point_text n p) ≤ 16
point_short n p h = omega (arith, length_point n p)

refused-inside : (r m : ℕ) → Inside (refused_text r m)
unfolding refused_text bytes
refused-inside r m = two_inside _ _ _ (omega arith) (numeral-short _) (numeral-short _)

verdict-inside : (n : ℕ) → n ≤ 16 → (w : Verdict) → Inside (verdict_text n w)
unfolding verdict_text bytes
verdict-inside n h accept = record { some = omega arith; fits = omega arith }
verdict-inside n h (off c p) = two_inside _ _ _ (omega arith) (numeral-short _) (point_short n p h)
verdict-inside n h (missing p) = line_inside _ _ (omega arith) (point_short n p h)
verdict-inside n h (literal c k) = two_inside _ _ _ (omega arith) (numeral-short _) (numeral-short _)
verdict-inside n h (cube c) = line_inside _ _ (omega arith) (numeral-short _)

list_inside : (n : ℕ) (t : Kind) (rows : List Row) → n ≤ 16 → Inside (list_said n (rows_list n t rows) (list_refusal n t rows))
unfolding list_said list_refusal first_broken
list_inside n t rows h = go (list_refusal n t rows) refl
  where
    need_kept : Bool
    need_kept = leb (need (add_all [] (reading_names n t rows)) n (lower_of n t rows) (upper_of n t rows)) 4096

    go : (r : ℕ) → list_refusal n t rows ≡ r → Inside (list_said n (rows_list n t rows) r)
    go zero z =
        let few = kept_first (leb (length (rows_list n t rows)) 1536) _ 7 (kept_first need_kept _ 6 z).1 in
        record {
          some = omega (arith, length_text n (rows_list n t rows));
          fits = text_fits n (rows_list n t rows) h (leb-true (length (rows_list n t rows)) 1536 few.0);
        }
    go (suc r) z = refused-inside (suc r) _

candidate_inside : (n : ℕ) (t : Kind) (rows : List Row) (text : List ℕ) → n ≤ 16 → (r : ℕ) → Inside (candidate_said n t rows text r)
unfolding candidate_said
candidate_inside n t rows text h zero = verdict-inside n h _
candidate_inside n t rows text h (suc r) = refused-inside (suc r) _

-- What is said of a function text, whatever follows one that was read.
answer-inside : (input : List ℕ) (next : (n : ℕ) → Kind → List Row → List ℕ) → ((n : ℕ) (t : Kind) (rows : List Row) → n ≤ 16 → Inside (next n t rows))
    → Inside (answer_by input (input_refusal input) (outcome 0 input) next)
unfolding answer_by is_good
answer-inside input next f = go (input_refusal input) refl (outcome 0 input) refl
  where
    go : (r : ℕ) → input_refusal input ≡ r → (w : Outcome) → outcome 0 input ≡ w → Inside (answer_by input r w next)
    go (suc r) z w o = refused-inside (suc r) _
    go zero z (good n t rows) o = f n t rows (good-columns input n t rows o).1
    go zero z (fault k) o = clash (kept-good input z) (ap is_good o)

-- The theorems.
pub list-answer-inside : (input : List ℕ) → Inside (list_answer input)
unfolding list_answer
list-answer-inside input = answer-inside input _ list_inside

pub check_answer-inside : (input : List ℕ) → Inside (check_answer input)
unfolding check_answer
check_answer-inside input =
    answer-inside input _ (λ n t rows h. candidate_inside n t rows (after_end input) h (first_broken (read_conditions n (after_end input) 1536)))

-- What is returned counts bytes of the room.
pub counts_inside : {w room room' : List ℕ} {r : ℕ} → Answers w room room' r → r ≤ length room'
unfolding padded
counts_inside {w} {room} {room'} {r} a = go (leb answer_room (length room)) a.count a.left
  where
    go : (b : Bool) → r ≡ cond b (length w) 0 → room' ≡ cond b (padded w room) room → r ≤ length room'
    go true e f = omega (arith, ap length f, length-append w (replicate (length room - length w) 0))
    go false e f = omega arith
