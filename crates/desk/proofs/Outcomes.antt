-- What a candidate keeps: as many signs in each row as columns are asked for, so that its cubes are well formed, and no more rows
-- than bytes; and the line of any text's fault is at most one more than its bytes.
use mathlib.Core.Path.{◌≡◌, refl, sym, ap, ◌∙◌, subst}
use mathlib.Core.Bool.{Bool, true, false, cond, ◌&&◌, ◌||◌}
use mathlib.Core.List.{List, [], ◌∷◌}
use mathlib.Core.Logic.{◌⊎◌, inl, inr}
use Prim.Native.Nat.{ℕ, suc, ◌+◌, ◌<◌, ◌≤◌}
use native.Mathlib.Omega.{arith}
use lib.Dec.{eqb}
use lib.ListN.{length, length-map}
use borrow.Author.Tests.{eqb-true}
use Rattle.std.specs.Prelude.{Option, Some, None}
use Rattle.rule.specs.Number.{cube_number}
use Rattle.rule.specs.Rows as Rows
use Rattle.rule.proofs.Bools.{clash, and_left, and_right, or_true}
use Rattle.rule.proofs.Delivered.{AllFormed}
use Rattle.rule.proofs.Number.{length-signs, well_formed-cube_number}
use Rattle.line.specs.Bytes.{is_newline, put_byte, split, lines}
use Rattle.line.specs.Meaning.{meaning, kind_of, row_of}
use Rattle.line.specs.declared.meaning.Line.{Line}
use Rattle.line.specs.declared.meaning.Line.TheVariants.{Empty, Columns, Output, Typed, Count, Row, End, Bad}
use Rattle.text.specs.Outcome.{Outcome, good, fault, start, with_columns, with_output, with_kind, with_count, with_row, said, columns_are, allows_columns, allows_out, first, legal, step, complete, kind_or_fd, end_with, finish, put_row, add_row, follow, run, outcome}
use Rattle.text.specs.Candidate.{cubes_of, fault_line}
use Rattle.text.specs.declared.judge.State.{State}
use Rattle.text.specs.declared.judge.Step.{Step}
use Rattle.text.specs.declared.judge.Step.TheVariants.{On, Fault, Ended}
use Rattle.text.proofs.FaultLines.{fault-line}

-- No more lines than bytes.
few_pieces : (p : Bool) (b : ℕ) (ps : List (List ℕ)) → length (put_byte p b ps) ≤ suc (length ps)
unfolding put_byte
few_pieces true b ps = omega arith
few_pieces false b [] = omega arith
few_pieces false b (q ∷ ps) = omega arith

few-lines : (text : List ℕ) → length (lines text) ≤ length text
unfolding lines split
few-lines [] = omega arith
few-lines (b ∷ t) = omega (arith, few_pieces (is_newline b) b (split is_newline t), few-lines t)

-- Every row has some number of signs.
unfoldable AllSized : ℕ → List Rows.Row → Type 0
AllSized m [] = Unit {0}
AllSized m (r ∷ rs) = (length r.cube ≡ m) × AllSized m rs

-- The rows of a text, where some number of columns is asked for and some lines are there.
record Fine (asked : ℕ) (j : ℕ) (rs : List Rows.Row) : Type 0 where
  few : length rs ≤ j
  sized : 0 < asked → AllSized asked rs

abbrev FineIn : ℕ → ℕ → Outcome → Type 0
FineIn asked j (good n t rs) = Fine asked j rs
FineIn asked j (fault k) = Unit {0}

-- The columns said so far are those asked for, and a row has as many signs.
abbrev Asked : ℕ → State → Type 0
Asked asked s = 0 < asked → (s.columns ≡ None) ⊎ (s.columns ≡ Some asked)

abbrev RowAsked : ℕ → Line → Type 0
RowAsked asked Empty = Unit {0}
RowAsked asked (Columns n) = Unit {0}
RowAsked asked Output = Unit {0}
RowAsked asked (Typed t) = Unit {0}
RowAsked asked (Count n) = Unit {0}
RowAsked asked (Row n x o) = 0 < asked → n ≡ asked
RowAsked asked End = Unit {0}
RowAsked asked Bad = Unit {0}

abbrev Leads : ℕ → Line → State → Type 0
Leads asked l s = Asked asked s × RowAsked asked l

legal-on : (q : Bool) (t s : State) → legal q t ≡ On s → (q ≡ true) × (t ≡ s)
unfolding legal
legal-on true t s e = (refl, cc)
legal-on false t s e = absurd (cc)

these_columns : (c : Option ℕ) (n : ℕ) → columns_are c n ≡ true → c ≡ Some n
unfolding columns_are
these_columns (Some k) n e = ap Some (sym (eqb-true n k e))
these_columns None n e = clash e refl

leads : (asked : ℕ) (s s' : State) (l : Line) → Asked asked s → step asked s l ≡ On s' → Leads asked l s'
unfolding step with_columns with_output with_kind with_count with_row allows_columns
leads asked s s' Empty i e = let q : s ≡ s' = cc in (subst (Asked asked) q i, tt)
leads asked s s' (Columns n) i e =
    let q = legal-on _ _ s' e in
    let a = and_right (first s (said s.columns)) (eqb asked 0 || eqb n asked) q.0 in
    (subst (Asked asked) q.1 (λ h. these h (or_true (eqb asked 0) (eqb n asked) a)), tt)
  where
    these : 0 < asked → (eqb asked 0 ≡ true) ⊎ (eqb n asked ≡ true) → (Some n ≡ None) ⊎ (Some n ≡ Some asked)
    these h (inl z) = let x : ⊥ = omega (arith, eqb-true asked 0 z) in absurd x
    these h (inr z) = inr (ap Some (eqb-true n asked z))
leads asked s s' Output i e = (subst (Asked asked) (legal-on _ _ s' e).1 i, tt)
leads asked s s' (Typed t) i e = (subst (Asked asked) (legal-on _ _ s' e).1 i, tt)
leads asked s s' (Count n) i e = (subst (Asked asked) (legal-on _ _ s' e).1 i, tt)
leads asked s s' (Row n x o) i e =
    let q = legal-on _ _ s' e in
    let b = columns_are s.columns n in
    let c = these_columns s.columns n (and_right s.output b (and_left (s.output && b) (allows_out asked o) q.0)) in
    (subst (Asked asked) q.1 i, λ h. signs c (i h))
  where
    signs : s.columns ≡ Some n → (s.columns ≡ None) ⊎ (s.columns ≡ Some asked) → n ≡ asked
    signs c (inl w) = absurd (cc)
    signs c (inr w) = cc
leads asked s s' End i e = absurd (cc)
leads asked s s' Bad i e = absurd (cc)

fine_end : (asked j : ℕ) (s : State) (k : ℕ) → FineIn asked j (finish s k)
unfolding finish end_with AllSized
fine_end asked j s k =
    elim s.columns as (λ c. FineIn asked j (end_with c s k)) [ Some n ↦ go n (complete s) | None ↦ tt ]
  where
    go : (n : ℕ) (q : Bool) → FineIn asked j (cond q (good n (kind_of (kind_or_fd s.kind)) []) (fault k))
    go n true = record { few = omega arith; sized = λ h. tt }
    go n false = tt

fine_put : (asked j n x : ℕ) (o : _) (w : Outcome) → (0 < asked → n ≡ asked) → FineIn asked j w → FineIn asked (suc j) (put_row (row_of n x o) w)
unfolding put_row row_of AllSized
fine_put asked j n x o (good m t rs) h f =
    record { few = omega (arith, f.few); sized = λ z. (length-signs n x ∙ h z, f.sized z) }
fine_put asked j n x o (fault k) h f = tt

wider : (asked j : ℕ) (w : Outcome) → FineIn asked j w → FineIn asked (suc j) w
wider asked j (good m t rs) f = record { few = omega (arith, f.few); sized = f.sized }
wider asked j (fault k) f = tt

fine_add : (asked j : ℕ) (l : Line) (w : Outcome) → RowAsked asked l → FineIn asked j w → FineIn asked (suc j) (add_row l w)
unfolding add_row
fine_add asked j Empty w h f = wider asked j w f
fine_add asked j (Columns n) w h f = wider asked j w f
fine_add asked j Output w h f = wider asked j w f
fine_add asked j (Typed t) w h f = wider asked j w f
fine_add asked j (Count n) w h f = wider asked j w f
fine_add asked j (Row n x o) w h f = fine_put asked j n x o w h f
fine_add asked j End w h f = wider asked j w f
fine_add asked j Bad w h f = wider asked j w f

fine_run : (asked : ℕ) (s : State) (k : ℕ) (ls : List (List ℕ)) → Asked asked s → FineIn asked (length ls) (run asked s k ls)
unfolding run follow
fine_run asked s k [] i = fine_end asked 0 s k
fine_run asked s k (l ∷ ls) i = go (step asked s (meaning l)) refl (λ s'. fine_run asked s' (k + 1) ls)
  where
    go : (u : Step) → step asked s (meaning l) ≡ u
        → ((s' : State) → Asked asked s' → FineIn asked (length ls) (run asked s' (k + 1) ls))
        → FineIn asked (suc (length ls)) (follow u k (finish s k) (λ s'. run asked s' (k + 1) ls) (meaning l))
    go (On s') d ih =
        let q = leads asked s s' (meaning l) i d in
        fine_add asked (length ls) (meaning l) (run asked s' (k + 1) ls) q.1 (ih s' q.0)
    go Fault d ih = tt
    go Ended d ih = fine_end asked (suc (length ls)) s k

fine_outcome : (asked : ℕ) (text : List ℕ) → FineIn asked (length (lines text)) (outcome asked text)
unfolding outcome start
fine_outcome asked text = fine_run asked start 1 (lines text) (λ h. inl refl)

-- A candidate's cubes are well formed, and no more than its bytes.
rows-formed : (m : ℕ) → m ≤ 16 → (rs : List Rows.Row) → AllSized m rs → AllFormed m (cubes_of (good m Rows.fd rs))
unfolding AllSized AllFormed cubes_of
rows-formed m h [] s = tt
rows-formed m h (r ∷ rs) s = (well_formed-cube_number m r.cube s.0 h, rows-formed m h rs s.1)

pub candidate_formed : (m : ℕ) → 1 ≤ m → m ≤ 16 → (text : List ℕ) → AllFormed m (cubes_of (outcome m text))
unfolding cubes_of AllFormed
candidate_formed m z h text = go (outcome m text) (fine_outcome m text)
  where
    go : (w : Outcome) → FineIn m (length (lines text)) w → AllFormed m (cubes_of w)
    go (good n t rs) f = rows-formed m h rs (f.sized (omega arith))
    go (fault k) f = tt

pub few-cubes : (m : ℕ) (text : List ℕ) → length (cubes_of (outcome m text)) ≤ length text
unfolding cubes_of
few-cubes m text = go (outcome m text) (fine_outcome m text)
  where
    go : (w : Outcome) → FineIn m (length (lines text)) w → length (cubes_of w) ≤ length text
    go (good n t rs) f = omega (arith, f.few, few-lines text, length-map rs (λ r. cube_number r.cube))
    go (fault k) f = omega arith

-- The line of a fault.
pub early_fault : (m : ℕ) (text : List ℕ) → fault_line (outcome m text) ≤ length text + 1
unfolding fault_line
early_fault m text = go (outcome m text) refl
  where
    go : (w : Outcome) → outcome m text ≡ w → fault_line w ≤ length text + 1
    go (good n t rs) e = omega arith
    go (fault k) e = omega (arith, (fault-line m text k e).1, few-lines text)
