-- The rows of a good text, read again for its columns: they are the rows of its outcome. Once a row is there the columns stay,
-- and each row has as many signs as the columns said so far; so every row has as many as the text has columns.
use mathlib.Core.Path.{◌≡◌, refl, sym, ap, ◌∙◌, subst}
use mathlib.Core.Bool.{Bool, true, false, cond, not, ◌&&◌, false≢true}
use mathlib.Core.List.{List, [], ◌∷◌, ◌++◌}
use Prim.Native.Nat.{ℕ, ◌+◌, ◌<◌, ◌≤◌}
use native.Mathlib.Omega.{arith}
use lib.Dec.{eqb}
use borrow.Author.Tests.{eqb-true}
use Rattle.std.specs.Prelude.{Option, Some, None, Ok}
use Rattle.rule.specs.Rows as Rows
use Rattle.rule.proofs.Bools.{and_left, and_right}
use Rattle.line.specs.Bytes.{lines}
use Rattle.line.specs.Meaning.{meaning, is_end, kind_of, row_of}
use Rattle.line.proofs.Lines.{FineColumns, columns_fine}
use Rattle.line.specs.declared.meaning.Line.{Line}
use Rattle.line.specs.declared.meaning.Line.TheVariants.{Empty, Columns, Output, Typed, Count, Row, End, Bad}
use Rattle.text.specs.Outcome.{Outcome, good, fault, start, with_columns, with_output, with_kind, with_count, with_row, said, columns_are, allows_columns, allows_out, first, legal, step, complete, end_with, finish, put_row, add_row, follow, run, outcome}
use Rattle.text.specs.Judged.{kind_for, judged_plus, judged}
use Rattle.text.specs.Function.{row_in, rows_in}
use Rattle.text.specs.declared.judge.State.{State}
use Rattle.text.specs.declared.judge.Step.{Step}
use Rattle.text.specs.declared.judge.Step.TheVariants.{On, Fault, Ended}
use Rattle.text.specs.declared.judge.Shape.{Shape}
use Rattle.text.proofs.KindNames.{same_kind}
use Rattle.text.proofs.Taken.{ended_is_end, on-is_not_end}

-- The second pass ends at `.e`; any other line has its row before those of the lines after it.
module _ (n : ℕ) (l : List ℕ) (ls : List (List ℕ)) where
  pub rows_to_end : is_end (meaning l) ≡ true → rows_in n (l ∷ ls) ≡ []
  unfolding rows_in
  rows_to_end e = ap (λ b. cond b [] (row_in n (meaning l) ++ rows_in n ls)) e

  pub rows_and_more : is_end (meaning l) ≡ false → rows_in n (l ∷ ls) ≡ row_in n (meaning l) ++ rows_in n ls
  unfolding rows_in
  rows_and_more e = ap (λ b. cond b [] (row_in n (meaning l) ++ rows_in n ls)) e

-- What is there is one.
some_same : {m n : ℕ} → Some m ≡ Some n → m ≡ n
some_same e = cc

-- A row fits what was said so far: it has as many signs as columns, and it is counted.
abbrev Fits : Line → State → Type 0
Fits Empty s = Unit {0}
Fits (Columns n) s = Unit {0}
Fits Output s = Unit {0}
Fits (Typed t) s = Unit {0}
Fits (Count n) s = Unit {0}
Fits (Row n x o) s = (s.columns ≡ Some n) × (0 < s.rows)
Fits End s = Unit {0}
Fits Bad s = Unit {0}

-- The columns are 1 to 16, if they were said.
abbrev Few : State → Type 0
Few s = (n : ℕ) → s.columns ≡ Some n → FineColumns n

-- What a line that leads on does: the columns are still 1 to 16; and once rows are there, they stay.
record Goes (s : State) (l : Line) (s' : State) : Type 0 where
  few : Few s'
  kept : 0 < s.rows → (s.columns ≡ s'.columns) × (0 < s'.rows)
  fits : Fits l s'

legal-on : (q : Bool) (t s : State) → legal q t ≡ On s → (q ≡ true) × (t ≡ s)
unfolding legal
legal-on true t s e = (refl, cc)
legal-on false t s e = absurd (cc)

no_rows : (s : State) (b : Bool) → first s b ≡ true → 0 < s.rows → ⊥
unfolding first
no_rows s b e h = omega (arith, eqb-true s.rows 0 (and_left (eqb s.rows 0) (not b) e))

these_columns : (c : Option ℕ) (n : ℕ) → columns_are c n ≡ true → c ≡ Some n
unfolding columns_are
these_columns (Some k) n e = ap Some (sym (eqb-true n k e))
these_columns None n e = absurd (false≢true e)

goes : (asked : ℕ) (s s' : State) (l : Line) → ((n : ℕ) → l ≡ Columns n → FineColumns n) → Few s → step asked s l ≡ On s' → Goes s l s'
unfolding step with_columns with_output with_kind with_count with_row
goes asked s s' Empty f h e =
    let q : s ≡ s' = cc in subst (Goes s Empty) q (record { few = h; kept = λ z. (refl, z); fits = tt })
goes asked s s' (Columns n) f h e =
    let q = legal-on _ _ s' e in
    subst (Goes s (Columns n)) q.1
    (record {
      few = λ m i. subst FineColumns (some_same i) (f n refl);
      kept = λ z. absurd (no_rows s (said s.columns) (and_left (first s (said s.columns)) (allows_columns asked n) q.0) z);
      fits = tt;
    })
goes asked s s' Output f h e =
    subst (Goes s Output) (legal-on _ _ s' e).1 (record { few = h; kept = λ z. (refl, z); fits = tt })
goes asked s s' (Typed t) f h e =
    subst (Goes s (Typed t)) (legal-on _ _ s' e).1 (record { few = h; kept = λ z. (refl, z); fits = tt })
goes asked s s' (Count n) f h e =
    subst (Goes s (Count n)) (legal-on _ _ s' e).1 (record { few = h; kept = λ z. (refl, z); fits = tt })
goes asked s s' (Row n x o) f h e =
    let q = legal-on _ _ s' e in
    let b = columns_are s.columns n in
    subst (Goes s (Row n x o)) q.1
    (record {
      few = h;
      kept = λ z. (refl, omega arith);
      fits = (these_columns s.columns n (and_right s.output b (and_left (s.output && b) (allows_out asked o) q.0)), omega arith);
    })
goes asked s s' End f h e = absurd (cc)
goes asked s s' Bad f h e = absurd (cc)

-- The rows after a line, where the outcome is good, and its own row before them.
record Rest (s : State) (l : Line) (w : Outcome) (n : ℕ) (t : Rows.Kind) (rs : List Rows.Row) : Type 0 where
  rest : List Rows.Row
  told : w ≡ good n t rest
  rows : (0 < s.rows → s.columns ≡ Some n) → rs ≡ row_in n l ++ rest

put_rest : (s : State) (k x : ℕ) (o : _) (w : Outcome) (n : ℕ) (t : Rows.Kind) (rs : List Rows.Row) → Fits (Row k x o) s →
    put_row (row_of k x o) w ≡ good n t rs → Rest s (Row k x o) w n t rs
unfolding put_row row_in
put_rest s k x o (good m u qs) n t rs f e =
    let a : m ≡ n = cc in
    let b : u ≡ t = cc in
    let d : row_of k x o ∷ qs ≡ rs = cc in
    record {
      rest = qs;
      told = λ i. good (a i) (b i) qs;
      rows = λ g. sym d ∙ ap (λ j. row_of j x o ∷ qs) (some_same (sym f.0 ∙ g f.1));
    }
put_rest s k x o (fault j) n t rs f e = absurd (cc)

rest_of : (s : State) (l : Line) (w : Outcome) (n : ℕ) (t : Rows.Kind) (rs : List Rows.Row) → Fits l s → add_row l w ≡ good n t rs → Rest s l w n t rs
unfolding add_row row_in
rest_of s Empty w n t rs f e = record { rest = rs; told = e; rows = λ g. refl }
rest_of s (Columns k) w n t rs f e = record { rest = rs; told = e; rows = λ g. refl }
rest_of s Output w n t rs f e = record { rest = rs; told = e; rows = λ g. refl }
rest_of s (Typed k) w n t rs f e = record { rest = rs; told = e; rows = λ g. refl }
rest_of s (Count k) w n t rs f e = record { rest = rs; told = e; rows = λ g. refl }
rest_of s (Row k x o) w n t rs f e = put_rest s k x o w n t rs f e
rest_of s End w n t rs f e = record { rest = rs; told = e; rows = λ g. refl }
rest_of s Bad w n t rs f e = record { rest = rs; told = e; rows = λ g. refl }

-- What is left of a good text, after what was said so far.
record Again (s : State) (ls : List (List ℕ)) (n : ℕ) (rs : List Rows.Row) : Type 0 where
  fine : FineColumns n
  kept : 0 < s.rows → s.columns ≡ Some n
  rows : rs ≡ rows_in n ls

finished : (s : State) (k n : ℕ) (t : Rows.Kind) (rs : List Rows.Row) → finish s k ≡ good n t rs → (s.columns ≡ Some n) × (rs ≡ [])
unfolding finish end_with
finished s k n t rs e = go s.columns (complete s) refl e
  where
    go : (c : Option ℕ) (q : Bool) → complete s ≡ q → end_with c s k ≡ good n t rs → (c ≡ Some n) × (rs ≡ [])
    go (Some m) true d e = let f : good m _ [] ≡ good n t rs = rw d at e in (cc, cc)
    go (Some m) false d e = let f : fault k ≡ good n t rs = rw d at e in absurd (cc)
    go None q d e = absurd (cc)

good-again : (asked : ℕ) (s : State) (k : ℕ) (ls : List (List ℕ)) (n : ℕ) (t : Rows.Kind) (rs : List Rows.Row) → Few s →
    run asked s k ls ≡ good n t rs → Again s ls n rs
unfolding run rows_in follow
good-again asked s k [] n t rs h e =
    let q = finished s k n t rs e in
    record { fine = h n q.0; kept = λ z. q.0; rows = q.1 }
good-again asked s k (l ∷ ls) n t rs h e =
    go (step asked s (meaning l)) refl e (λ s' rs'. good-again asked s' (k + 1) ls n t rs')
  where
    go : (u : Step) → step asked s (meaning l) ≡ u
        → follow u k (finish s k) (λ s'. run asked s' (k + 1) ls) (meaning l) ≡ good n t rs
        → ((s' : State) (rs' : List Rows.Row) → Few s' → run asked s' (k + 1) ls ≡ good n t rs' → Again s' ls n rs')
        → Again s (l ∷ ls) n rs
    go (On s') d e ih =
        let g = goes asked s s' (meaning l) (columns_fine l) h d in
        let q = rest_of s' (meaning l) (run asked s' (k + 1) ls) n t rs g.fits e in
        let a = ih s' q.rest g.few q.told in
        record {
          fine = a.fine;
          kept = λ z. (g.kept z).0 ∙ a.kept (g.kept z).1;
          rows = q.rows a.kept ∙ ap (λ r. row_in n (meaning l) ++ r) a.rows ∙ sym (rows_and_more n l ls (on-is_not_end asked s s' (meaning l) d));
        }
    go Fault d e ih = absurd (cc)
    go Ended d e ih =
        let q = finished s k n t rs e in
        record { fine = h n q.0; kept = λ z. q.0; rows = q.1 ∙ sym (rows_to_end n l ls (ended_is_end asked s (meaning l) d)) }

-- A good text of n columns and some type: 1 to 16 columns, and its rows are those of the second pass.
pub record GoodText (text : List ℕ) (n : ℕ) (t : Rows.Kind) : Type 0 where
  pub some : 1 ≤ n
  pub few : n ≤ 16
  pub told : outcome 0 text ≡ good n t (rows_in n (lines text))

good_text : (text : List ℕ) (n : ℕ) (t : Rows.Kind) (rs : List Rows.Row) → outcome 0 text ≡ good n t rs → GoodText text n t
unfolding outcome start
good_text text n t rs e =
    let a = good-again 0 start 1 (lines text) n t rs (λ m i. absurd (cc)) e in
    record { some = a.fine.positive; few = a.fine.few; told = e ∙ ap (good n t) a.rows }

-- What the shape says of the outcome.
pub judged-good : (text : List ℕ) (x : Shape) → Ok x ≡ judged (outcome 0 text) → GoodText text x.columns (kind_of x.kind)
unfolding judged judged_plus
judged-good text x e = go (outcome 0 text) refl e
  where
    go : (w : Outcome) → outcome 0 text ≡ w → Ok x ≡ judged w → GoodText text x.columns (kind_of x.kind)
    go (good j u rs) q e =
        let a : x.columns ≡ j = cc in
        let b : x.kind ≡ kind_for u = cc in
        good_text text x.columns (kind_of x.kind) rs (q ∙ (λ i. good (sym a i) (sym (ap kind_of b ∙ same_kind u) i) rs))
    go (fault k) q e = absurd (cc)
