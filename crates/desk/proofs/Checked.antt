-- The second program: the ways out of `say_verdict`, and what it says of the rows that were read.
use mathlib.Core.Path.{◌≡◌, refl, sym, ap, ap₂, ◌∙◌}
use mathlib.Core.Bool.{Bool, true, false, cond, ◌&&◌}
use mathlib.Core.List.{List, [], ◌∷◌, ◌++◌}
use Prim.Native.Nat.{ℕ, zero, suc, ◌-◌, ◌≤◌}
use native.Mathlib.Omega.{arith}
use lib.Dec.{eqb, leb}
use lib.ListN.{length, take, replicate, length-append, length-drop}
use lib.Seq.{take_at, length-take-le}
use borrow.Author.Tests.{leb-true, eq-eqb}
use Rattle.std.specs.Prelude.{Result, Ok, Err}
use Rattle.rule.specs.Func.{Fn}
use Rattle.rule.specs.Number.{first_malformed}
use Rattle.rule.specs.Refusal.{Condition, first_broken, text_fault, list_lacks, cube_malformed, number_of}
use Rattle.rule.specs.declared.refusal.Refused.{Refused}
use Rattle.rule.specs.Rows.{Kind, Row, lower_of, upper_of}
use Rattle.rule.specs.Verdict.{Verdict, accept, off, missing, literal, cube, verdict_numbers}
use Rattle.rule.proofs.Delivered.{AllFormed}
use Rattle.rule.proofs.Malformed.{none_malformed}
use Rattle.graph.specs.Table.{table_of, fn_of}
use Rattle.graph.proofs.Refusals.{kept_next, none-broken}
use Rattle.graph.proofs.Roots.{past_input}
use Rattle.line.specs.Bytes.{lines}
use Rattle.line.specs.Meaning.{bytes_to_end, after_end}
use Rattle.checker.specs.Judging.{Judged, judged_as}
use Rattle.checker.specs.Entry.{lower, upper, refusal, answer_for}
use Rattle.text.specs.Outcome.{outcome}
use Rattle.text.specs.Room.{padded}
use Rattle.text.specs.Candidate.{is_good, fault_line, cubes_of, read_conditions, read_returns, read_by, read_answer, read_numbers, numbers_for, list_by, list_read, Read}
use Rattle.desk.specs.Said.{refused_text, verdict_text}
use Rattle.desk.specs.Answer.{answer_by, candidate_said, check_answer}
use Rattle.desk.specs.Judged.{judged_text, refusal_text}
use Rattle.desk.specs.Contract.{Ready, candidate_for}
use Rattle.desk.proofs.Outcomes.{candidate_formed, few-cubes, early_fault}
use Rattle.desk.proofs.Reading.{kept_first, ReadRows}
use Rattle.desk.proofs.Prepared.{input_kept}

-- What follows a text is no longer than it, and the candidate.
rest-short : (input : List ℕ) → length (after_end input) ≤ length input
unfolding after_end
rest-short input = omega (arith, length-drop (bytes_to_end (lines input)) input)

pub text_short : (input : List ℕ) {text : List ℕ} → length input ≤ 32768 → text ≡ after_end input → length text ≤ 32768
text_short input h e = omega (arith, ap length e, rest-short input)

pub same_rest : {n c : ℕ} {v l h : List ℕ} {a b : ℕ} {list answer text : List ℕ} (input : List ℕ) → Ready n c v l h a b list answer → text ≡ after_end input
    → candidate_for n (fn_of (table_of v l h) 0 n a) (fn_of (table_of v l h) 0 n b) text (first_broken (read_conditions n text 1536))
    ≡ candidate_for n (fn_of (table_of v l h) 0 n a) (fn_of (table_of v l h) 0 n b) (after_end input) (first_broken (read_conditions n (after_end input) 1536))
same_rest {n} {v = v} {l} {h} {a} {b} input r e =
    ap (λ t. candidate_for n (fn_of (table_of v l h) 0 n a) (fn_of (table_of v l h) 0 n b) t (first_broken (read_conditions n t 1536))) e

-- The line of a verdict, by the checker's answer.
verdict_line : (n : ℕ) (w : Verdict) → judged_text n (judged_as w) ≡ verdict_text n w
unfolding judged_text judged_as
verdict_line n accept = refl
verdict_line n (off c p) = refl
verdict_line n (missing p) = refl
verdict_line n (literal c k) = refl
verdict_line n (cube c) = refl

-- Nothing is refused of a list of well-formed cubes, and the answer is the verdict on it.
module _ {n c : ℕ} {v l h : List ℕ} {a b : ℕ} {list answer : List ℕ} (r : Ready n c v l h a b list answer)
    (xs : List ℕ) (few : length xs ≤ 16384) (formed : AllFormed n xs) where
  none-refused : refusal n c v l h a b xs ≡ 0
  unfolding refusal
  none-refused =
      let formed_kept : Condition = record { number = cube_malformed; kept = eqb (first_malformed n xs) 0 } in
      past_input n c v l h a b (length xs) (formed_kept ∷ []) (input_kept r (length xs) few) ∙
      kept_next formed_kept [] (eq-eqb (first_malformed n xs) 0 (none_malformed n xs formed)) ∙ none-broken

  verdict-told : answer_for n c v l h a b xs (refusal n c v l h a b xs)
      ≡ Ok (judged_as (verdict_numbers n (fn_of (table_of v l h) 0 n a) (fn_of (table_of v l h) 0 n b) xs))
  unfolding answer_for lower upper
  verdict-told = ap (answer_for n c v l h a b xs) none-refused

-- What is read of a candidate.
module _ {n c : ℕ} {v l h : List ℕ} {a b : ℕ} {list answer text list' : List ℕ} {g : Result ℕ Refused}
    (r : Ready n c v l h a b list answer) (short : length text ≤ 32768) (p : Read n text list list' g) where
  abbrev L : Fn n
  L = fn_of (table_of v l h) 0 n a

  abbrev U : Fn n
  U = fn_of (table_of v l h) 0 n b

  abbrev broken : ℕ
  broken = first_broken (read_conditions n text 1536)

  abbrev xs : List ℕ
  xs = cubes_of (outcome n text)

  answer-by : g ≡ read_by broken (outcome n text)
  unfolding read_answer
  answer-by = p.answer ∙ ap (λ k. read_answer n text k) r.cubes

  numbers-by : read_numbers g ≡ numbers_for broken (outcome n text)
  numbers-by = p.numbers ∙ ap (λ k. numbers_for (first_broken (read_conditions n text k)) (outcome n text)) r.cubes

  -- What a refusal returns is at most one past the last line, or the rows.
  returns_small : (q : ℕ) → read_returns (outcome n text) q ≤ 32769
  unfolding read_returns
  returns_small q = go (eqb q text_fault) (eqb q list_lacks)
    where
      go : (s t : Bool) → cond s (fault_line (outcome n text)) (cond t (length xs) 0) ≤ 32769
      go true t = omega (arith, early_fault n text, short)
      go false true = omega (arith, few-cubes n text, short)
      go false false = omega arith

  -- At a refusal.
  module _ {f : Refused} (e : g ≡ Err f) where
    told : (number_of f.refusal ≡ broken) × (f.returned ≡ read_returns (outcome n text) broken)
    unfolding read_numbers numbers_for
    told = let i = ap read_numbers (sym e) ∙ numbers-by in (ap (λ k. k.refusal) i, ap (λ k. k.returned) i)

    said : (k : ℕ) → broken ≡ k → refused_text broken (read_returns (outcome n text) broken) ≡ candidate_for n L U text k
    unfolding read_by candidate_for
    said zero z = let i = sym e ∙ answer-by ∙ ap (λ k. read_by k (outcome n text)) z in absurd (cc)
    said (suc k) z = ap (λ q. refused_text q (read_returns (outcome n text) q)) z

    pub candidate_refused : refusal_text f ≡ candidate_for n L U text broken
    candidate_refused = ap₂ refused_text told.0 told.1 ∙ said broken refl

    pub value_small : f.returned ≤ 32769
    value_small = omega (arith, told.1, returns_small broken)

  -- Where the rows were taken.
  module _ {k : ℕ} (e : g ≡ Ok k) where
    kept : broken ≡ 0
    unfolding read_numbers numbers_for
    kept = sym (ap (λ m. m.refusal) (ap read_numbers (sym e) ∙ numbers-by))

    long : k ≡ length xs
    unfolding read_by
    long = let i = sym e ∙ answer-by ∙ ap (λ k. read_by k (outcome n text)) kept in cc

    room-is : list' ≡ xs ++ replicate (length list - length xs) 0
    unfolding list_read list_by padded
    room-is = p.left ∙ ap (λ q. list_by q (outcome n text) list) (ap (λ k. first_broken (read_conditions n text k)) r.cubes ∙ kept)

    stands_inside : k ≤ length list'
    stands_inside = omega (arith, long, ap length room-is, length-append xs (replicate (length list - length xs) 0))

    pub stands_long : k ≡ length (take k list')
    stands_long = sym (length-take-le k list' stands_inside)

    stands : take k list' ≡ xs
    stands = ap (take k) room-is ∙ take_at xs (replicate (length list - length xs) 0) k (sym long)

    few : length xs ≤ 16384
    unfolding read_conditions first_broken
    few =
        let e₁ = kept_first (leb 1 n && leb n 16) _ 0 kept in
        let e₂ = kept_first (leb (length text) 32768) _ 9 e₁.1 in
        let e₃ = kept_first (leb 1536 16384) _ 5 e₂.1 in
        let e₄ = kept_first (is_good (outcome n text)) _ 10 e₃.1 in
        omega (arith, leb-true (length xs) 1536 (kept_first (leb (length xs) 1536) _ 7 e₄.1).0)

    -- The checker's answer is the verdict on them, and never a refusal.
    module _ {told : Result Judged Refused} (q : told ≡ answer_for n c v l h a b (take k list') (refusal n c v l h a b (take k list'))) where
      told-is : told ≡ Ok (judged_as (verdict_numbers n L U xs))
      told-is =
          q ∙ ap (λ ys. answer_for n c v l h a b ys (refusal n c v l h a b ys)) stands ∙
          verdict-told r xs few (candidate_formed n r.some r.roots.sound.columns text)

      pub candidate_judged : {w : Judged} → told ≡ Ok w → judged_text n w ≡ candidate_for n L U text broken
      unfolding candidate_for
      candidate_judged {w} d =
          let i = sym d ∙ told-is in
          let j : w ≡ judged_as (verdict_numbers n L U xs) = cc in
          ap (judged_text n) j ∙ verdict_line n (verdict_numbers n L U xs) ∙ ap (candidate_for n L U text) (sym kept)

      pub never_refused : {f : Refused} → told ≡ Err f → ⊥
      never_refused d = let i = sym d ∙ told-is in cc

-- What is said of the rows that were read.
same_candidate : (n : ℕ) (t : Kind) (rows : List Row) (L U : Fn n) (text : List ℕ) (q : ℕ) → L ≡ lower_of n t rows → U ≡ upper_of n t rows
    → candidate_for n L U text q ≡ candidate_said n t rows text q
unfolding candidate_for candidate_said
same_candidate n t rows L U text zero e f = ap₂ (λ x y. verdict_text n (verdict_numbers n x y (cubes_of (outcome n text)))) e f
same_candidate n t rows L U text (suc q) e f = refl

pub rows_checked : {input v l h : List ℕ} {n c a b : ℕ} → ReadRows input v l h n c a b
    → candidate_for n (fn_of (table_of v l h) 0 n a) (fn_of (table_of v l h) 0 n b) (after_end input) (first_broken (read_conditions n (after_end input) 1536))
    ≡ check_answer input
unfolding check_answer answer_by
rows_checked {input} {n = n} r =
    same_candidate n r.kind r.rows _ _ (after_end input) (first_broken (read_conditions n (after_end input) 1536)) r.on.means r.on_or_dc.means ∙
    ap₂ (λ q w. answer_by input q w (λ n t rows. candidate_said n t rows (after_end input) (first_broken (read_conditions n (after_end input) 1536)))) (sym r.kept) (sym r.told)
