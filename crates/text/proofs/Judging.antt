-- Judging a text: what each kind of line does, test by test, and how what is left of a text gives the whole answer.
use mathlib.Core.Path.{◌≡◌, refl, sym, ap, ◌∙◌}
use mathlib.Core.Bool.{Bool, true, false, ◌&&◌}
use mathlib.Core.List.{List, []}
use Prim.Native.Nat.{ℕ, ◌+◌, ◌≤◌}
use native.Mathlib.Omega.{arith}
use borrow.Author.Tests.{eq-eqb, ne_eqb}
use Rattle.std.specs.Prelude.{Some, None, Ok}
use Rattle.rule.specs.Rows as Rows
use Rattle.line.specs.Bytes.{lines}
use Rattle.line.specs.Meaning.{row_of}
use Rattle.line.specs.declared.meaning.Kind.{Kind}
use Rattle.line.specs.declared.meaning.Out.{Out}
use Rattle.line.specs.declared.meaning.Line.{Line}
use Rattle.line.specs.declared.meaning.Line.TheVariants.{Empty, Columns, Output, Typed, Count, Row, End, Bad}
use Rattle.text.specs.Outcome.{Outcome, good, fault, with_columns, with_output, with_kind, with_count, with_row, said, columns_are, allows_columns, allows_kind, allows_out, first, legal, step, count_right, complete, end_with, finish, put_row, add_row, follow, run}
use Rattle.text.specs.Judged.{kind_for, judged_plus}
use Rattle.text.specs.declared.judge.State.{State}
use Rattle.text.specs.declared.judge.Step.{Step}
use Rattle.text.specs.declared.judge.Step.TheVariants.{On, Fault, Ended}
use Rattle.text.proofs.NextLine.{Took}

-- What each kind of line does.
module _ (asked : ℕ) (s : State) where
  module _ (n : ℕ) where
    pub columns_late : (s.rows ≡ 0 → ⊥) → Fault ≡ step asked s (Columns n)
    unfolding step first legal
    columns_late h = rw (ne_eqb s.rows 0 h)

    pub columns-again : s.rows ≡ 0 → (m : ℕ) → s.columns ≡ Some m → Fault ≡ step asked s (Columns n)
    unfolding step first legal said
    columns-again h m g = rw (eq-eqb s.rows 0 h) (rw g)

    pub columns_other : s.rows ≡ 0 → s.columns ≡ None → (asked ≡ 0 → ⊥) → (n ≡ asked → ⊥) → Fault ≡ step asked s (Columns n)
    unfolding step first legal said allows_columns
    columns_other h g f e = rw (eq-eqb s.rows 0 h) (rw g (rw (ne_eqb asked 0 f) (rw (ne_eqb n asked e))))

    pub count-again : s.rows ≡ 0 → (m : ℕ) → s.count ≡ Some m → Fault ≡ step asked s (Count n)
    unfolding step first legal said
    count-again h m g = rw (eq-eqb s.rows 0 h) (rw g)

  pub output_again : s.rows ≡ 0 → s.output ≡ true → Fault ≡ step asked s Output
  unfolding step first legal
  output_again h g = rw (eq-eqb s.rows 0 h) (rw g)

  module _ (d : Kind) where
    pub kind-again : s.rows ≡ 0 → (t : Kind) → s.kind ≡ Some t → Fault ≡ step asked s (Typed d)
    unfolding step first legal said
    kind-again h t g = rw (eq-eqb s.rows 0 h) (rw g)

    pub kind_other : s.rows ≡ 0 → s.kind ≡ None → allows_kind asked d ≡ false → Fault ≡ step asked s (Typed d)
    unfolding step first legal said
    kind_other h g f = rw (eq-eqb s.rows 0 h) (rw g (rw f))

  module _ (n x : ℕ) (o : Out) where
    pub row_early : s.columns ≡ None → Fault ≡ step asked s (Row n x o)
    unfolding step legal columns_are
    row_early h = go s.output
      where
        go : (q : Bool) → Fault ≡ legal (q && columns_are s.columns n && allows_out asked o) (with_row s)
        go true = rw h
        go false = refl

    pub row_unsaid : s.output ≡ false → Fault ≡ step asked s (Row n x o)
    unfolding step legal
    row_unsaid g = rw g

    pub row-wide : (m : ℕ) → s.columns ≡ Some m → s.output ≡ true → (n ≡ m → ⊥) → Fault ≡ step asked s (Row n x o)
    unfolding step legal columns_are
    row-wide m h g f = rw g (rw h (rw (ne_eqb n m f)))

    pub row_other : s.columns ≡ Some n → s.output ≡ true → allows_out asked o ≡ false → Fault ≡ step asked s (Row n x o)
    unfolding step legal columns_are
    row_other h g e = rw g (rw h (rw (eq-eqb n n refl) (rw e)))

-- The end of a text, test by test.
and_false : (b : Bool) → b && false ≡ false
and_false true = refl
and_false false = refl

module _ (s : State) (k : ℕ) where
  pub no_columns-said : s.columns ≡ None → fault k ≡ finish s k
  unfolding finish end_with
  no_columns-said h = rw h

  pub no_output_said : s.output ≡ false → fault k ≡ finish s k
  unfolding finish end_with complete
  no_output_said g = elim s.columns as (λ c. fault k ≡ end_with c s k) [ Some n ↦ rw g (rw (and_false (said s.columns))) | None ↦ refl ]

  pub miscounted : (m : ℕ) → s.count ≡ Some m → (m ≡ s.rows → ⊥) → fault k ≡ finish s k
  unfolding finish end_with complete count_right
  miscounted m f e =
      elim s.columns as (λ c. fault k ≡ end_with c s k) [
        | Some n ↦ rw f (rw (ne_eqb m s.rows e) (rw (and_false (said s.columns && s.output))))
        | None ↦ refl
      ]

-- A line that leads on: a row is counted, and other lines have none.
legal-on : (q : Bool) (t s' : State) → legal q t ≡ On s' → t ≡ s'
unfolding legal
legal-on true t s' e = cc
legal-on false t s' e = absurd (cc)

counted_row : (r : Rows.Row) (m : ℕ) (w : Outcome) → judged_plus m (put_row r w) ≡ judged_plus (m + 1) w
unfolding judged_plus put_row
counted_row r m (good n t rs) = ap (λ j. Ok (record { columns = n; kind = kind_for t; rows = j })) (omega arith)
counted_row r m (fault k) = refl

record Counts (s : State) (l : Line) (s' : State) : Type 0 where
  rows : (w : Outcome) → judged_plus s.rows (add_row l w) ≡ judged_plus s'.rows w
  few : s'.rows ≤ s.rows + 1

same_rows : (s t s' : State) (l : Line) → ((w : Outcome) → add_row l w ≡ w) → t.rows ≡ s.rows → t ≡ s' → Counts s l s'
same_rows s t s' l a r e =
    let f : s'.rows ≡ s.rows = ap (λ u. u.rows) (sym e) ∙ r in
    record { rows = λ w. ap (judged_plus s.rows) (a w) ∙ ap (λ m. judged_plus m w) (sym f); few = omega arith }

counts : (asked : ℕ) (s : State) (l : Line) (s' : State) → step asked s l ≡ On s' → Counts s l s'
unfolding step add_row with_columns with_output with_kind with_count with_row
counts asked s Empty s' e = same_rows s s s' Empty (λ w. refl) refl (cc)
counts asked s (Columns n) s' e =
    same_rows s (with_columns s n) s' (Columns n) (λ w. refl) refl (legal-on _ (with_columns s n) s' e)
counts asked s Output s' e = same_rows s (with_output s) s' Output (λ w. refl) refl (legal-on _ (with_output s) s' e)
counts asked s (Typed t) s' e = same_rows s (with_kind s t) s' (Typed t) (λ w. refl) refl (legal-on _ (with_kind s t) s' e)
counts asked s (Count n) s' e = same_rows s (with_count s n) s' (Count n) (λ w. refl) refl (legal-on _ (with_count s n) s' e)
counts asked s (Row n x o) s' e =
    let f : s.rows + 1 ≡ s'.rows = ap (λ u. u.rows) (legal-on _ (with_row s) s' e) in
    record { rows = λ w. counted_row (row_of n x o) s.rows w ∙ ap (λ m. judged_plus m w) f; few = omega arith }
counts asked s End s' e = absurd (cc)
counts asked s Bad s' e = absurd (cc)

-- One line more of a text, and none.
module _ (asked : ℕ) (text : List ℕ) (s : State) (k : ℕ) where
  pub text-over : lines text ≡ [] → run asked s k (lines text) ≡ finish s k
  unfolding run
  text-over e = ap (run asked s k) e

  module _ (l : Line) (rest : List ℕ) (t : Took text l rest) where
    abbrev more : List (List ℕ)
    more = lines rest

    unrolled : run asked s k (lines text) ≡ follow (step asked s l) k (finish s k) (λ s'. run asked s' (k + 1) more) l
    unfolding run
    unrolled =
        ap (run asked s k) t.unrolls ∙
        ap (λ m. follow (step asked s m) k (finish s k) (λ s'. run asked s' (k + 1) more) m) (sym t.means)

    after : (d : Step) → d ≡ step asked s l → run asked s k (lines text) ≡ follow d k (finish s k) (λ s'. run asked s' (k + 1) more) l
    after d e = unrolled ∙ ap (λ t. follow t k (finish s k) (λ s'. run asked s' (k + 1) more) l) (sym e)

    pub line_faulty : Fault ≡ step asked s l → run asked s k (lines text) ≡ fault k
    unfolding follow
    line_faulty e = after Fault e

    pub line_ending : Ended ≡ step asked s l → run asked s k (lines text) ≡ finish s k
    unfolding follow
    line_ending e = after Ended e

    module _ (s' : State) (e : On s' ≡ step asked s l) where
      pub line_on : judged_plus s'.rows (run asked s' (k + 1) more) ≡ judged_plus s.rows (run asked s k (lines text))
      unfolding follow
      line_on = sym (ap (judged_plus s.rows) (after (On s') e) ∙ (counts asked s l s' (sym e)).rows (run asked s' (k + 1) more))

      pub few-rows : s'.rows ≤ s.rows + 1
      few-rows = (counts asked s l s' (sym e)).few
