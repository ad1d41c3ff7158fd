-- The outcome that is found with a state, line by line, is the one that is said without it.
use mathlib.Core.Path.{◌≡◌, refl, sym, ap, ap₂, ◌∙◌}
use mathlib.Core.Bool.{Bool, true, false, cond, not, ◌&&◌, ◌||◌, false≢true, true≢false}
use mathlib.Core.List.{List, [], ◌∷◌, ◌++◌, map, append_assoc, append-nil}
use Prim.Native.Nat.{ℕ, ◌+◌}
use native.Mathlib.Omega.{arith}
use lib.Dec.{eqb}
use lib.ListN.{length, length-append}
use borrow.Author.Tests.{ne_eqb}
use Rattle.std.specs.Prelude.{Option, Some, None}
use Rattle.rule.specs.Rows as Rows
use Rattle.line.specs.Bytes.{lines}
use Rattle.line.specs.Meaning.{meaning, is_end, kind_of, row_of}
use Rattle.line.specs.declared.meaning.Kind.{Kind}
use Rattle.line.specs.declared.meaning.Kind.TheVariants.{Fd}
use Rattle.line.specs.declared.meaning.Out.{Out}
use Rattle.line.specs.declared.meaning.Line.{Line}
use Rattle.line.specs.declared.meaning.Line.TheVariants.{Empty, Columns, Output, Typed, Count, Row, End, Bad}
use Rattle.text.specs.Outcome.{Outcome, good, fault, start, with_columns, with_output, with_kind, with_count, with_row, said as is_said, columns_are, allows_columns, allows_kind, allows_out, first, legal, step, count_right, complete, kind_or_fd, end_with, finish, put_row, add_row, follow, run, outcome}
use Rattle.text.specs.Legal.{sort, given, said, columns_in, kind_in, count_in, columns_said, kind_said, count_said, row_said, rows_said, legal_after, whole, closed, closing, outcome_after, stateless_outcome}
use Rattle.text.specs.declared.judge.State.{State}
use Rattle.text.specs.declared.judge.Step.TheVariants.{Ended}

-- What one line more gives and says.
or_of : (a b c : Bool) → (a || b) || c ≡ a || (b || c)
or_of true b c = refl
or_of false b c = refl

or_false : (a : Bool) → a || false ≡ a
or_false true = refl
or_false false = refl

given-more : (k : ℕ) (ls : List Line) (l : Line) → given k (ls ++ (l ∷ [])) ≡ given k ls || eqb (sort l) k
unfolding given
given-more k [] l = or_false (eqb (sort l) k)
given-more k (m ∷ ls) l = ap (λ q. eqb (sort m) k || q) (given-more k ls l) ∙ sym (or_of (eqb (sort m) k) (given k ls) (eqb (sort l) k))

said_more : {A : Type 0} (k : ℕ) (f : Line → A) (d : A) (ls : List Line) (l : Line) → eqb (sort l) k ≡ false
    → said k f d (ls ++ (l ∷ [])) ≡ said k f d ls
unfolding said
said_more k f d [] l e = rw e
said_more k f d (m ∷ ls) l e = ap (cond (eqb (sort m) k) (f m)) (said_more k f d ls l e)

said-first : {A : Type 0} (k : ℕ) (f : Line → A) (d : A) (ls : List Line) (l : Line) → given k ls ≡ false → eqb (sort l) k ≡ true
    → said k f d (ls ++ (l ∷ [])) ≡ f l
unfolding given said
said-first k f d [] l h e = rw e
said-first k f d (m ∷ ls) l h e = go (eqb (sort m) k) h (λ g. said-first k f d ls l g e)
  where
    go : (q : Bool) → q || given k ls ≡ false → (given k ls ≡ false → said k f d (ls ++ (l ∷ [])) ≡ f l)
        → cond q (f m) (said k f d (ls ++ (l ∷ []))) ≡ f l
    go true g ih = absurd (true≢false g)
    go false g ih = ih g

said_none : {A : Type 0} (k : ℕ) (f : Line → A) (d : A) (ls : List Line) → given k ls ≡ false → said k f d ls ≡ d
unfolding given said
said_none k f d [] h = refl
said_none k f d (m ∷ ls) h = go (eqb (sort m) k) h (said_none k f d ls)
  where
    go : (q : Bool) → q || given k ls ≡ false → (given k ls ≡ false → said k f d ls ≡ d) → cond q (f m) (said k f d ls) ≡ d
    go true g ih = absurd (true≢false g)
    go false g ih = ih g

rows_more : (ls : List Line) (l : Line) → rows_said (ls ++ (l ∷ [])) ≡ rows_said ls ++ row_said l
unfolding rows_said
rows_more [] l = append-nil (row_said l)
rows_more (m ∷ ls) l = ap (λ r. row_said m ++ r) (rows_more ls l) ∙ sym (append_assoc (row_said m) (rows_said ls) (row_said l))

-- What was said, if it was.
abbrev given_value : {A : Type 0} → Bool → A → Option A
given_value true x = Some x
given_value false x = None

-- A state tells what the lines before say.
record Told (s : State) (ls : List Line) : Type 0 where
  columns : s.columns ≡ given_value (given 1 ls) (columns_said ls)
  output : s.output ≡ given 2 ls
  kind : s.kind ≡ given_value (given 3 ls) (kind_said ls)
  count : s.count ≡ given_value (given 4 ls) (count_said ls)
  rows : s.rows ≡ length (rows_said ls)
  given-rows : given 5 ls ≡ not (eqb (length (rows_said ls)) 0)

told-start : Told start []
unfolding start given columns_said kind_said count_said said rows_said
told-start = record { columns = refl; output = refl; kind = refl; count = refl; rows = refl; given-rows = refl }

-- The state after a line.
unfoldable after : State → Line → State
after s Empty = s
after s (Columns n) = with_columns s n
after s Output = with_output s
after s (Typed t) = with_kind s t
after s (Count n) = with_count s n
after s (Row n x o) = with_row s
after s End = s
after s Bad = s

not_not : (a : Bool) → not (not a) ≡ a
not_not true = refl
not_not false = refl

-- What is asked of a value that was said, and of one that was not.
is-given : {A : Type 0} (b : Bool) (x : A) → is_said (given_value b x) ≡ b
unfolding is_said
is-given true x = refl
is-given false x = refl

are-given : (b : Bool) (x n : ℕ) → columns_are (given_value b x) n ≡ b && eqb n x
unfolding columns_are
are-given true x n = refl
are-given false x n = refl

right-given : (b : Bool) (x r : ℕ) → count_right (given_value b x) r ≡ not b || eqb x r
unfolding count_right
right-given true x r = refl
right-given false x r = refl

swap_first : (a b c : Bool) → a && (b && c) ≡ b && a && c
swap_first true true c = refl
swap_first true false c = refl
swap_first false true c = refl
swap_first false false c = refl

module _ (asked : ℕ) (s : State) (ls : List Line) (t : Told s ls) where
  no_rows : eqb s.rows 0 ≡ not (given 5 ls)
  no_rows = ap (λ r. eqb r 0) t.rows ∙ sym (not_not (eqb (length (rows_said ls)) 0)) ∙ ap not (sym t.given-rows)

  -- A line's step is its legality after the lines before.
  legal-step : (l : Line) → is_end l ≡ false → step asked s l ≡ legal (legal_after asked ls l) (after s l)
  unfolding step legal legal_after after first is_end
  legal-step Empty e = refl
  legal-step (Columns n) e =
      ap₂ (λ a b. legal (a && not b && allows_columns asked n) (with_columns s n)) no_rows (ap is_said t.columns ∙ is-given (given 1 ls) (columns_said ls))
  legal-step Output e = ap₂ (λ a b. legal (a && not b) (with_output s)) no_rows t.output
  legal-step (Typed d) e =
      ap₂ (λ a b. legal (a && not b && allows_kind asked d) (with_kind s d)) no_rows (ap is_said t.kind ∙ is-given (given 3 ls) (kind_said ls))
  legal-step (Count n) e =
      ap₂ (λ a b. legal (a && not b) (with_count s n)) no_rows (ap is_said t.count ∙ is-given (given 4 ls) (count_said ls))
  legal-step (Row n x o) e =
      ap (λ q. legal (q && allows_out asked o) (with_row s))
      (ap₂ (λ a c. a && columns_are c n) t.output t.columns ∙
      ap (λ c. given 2 ls && c) (are-given (given 1 ls) (columns_said ls) n) ∙
      swap_first (given 2 ls) (given 1 ls) (eqb n (columns_said ls)))
  legal-step End e = absurd (true≢false e)
  legal-step Bad e = refl

  -- The end of a text is whole as the state says.
  complete-whole : complete s ≡ whole ls
  unfolding complete whole
  complete-whole =
      ap₂ (λ a b. a && b && count_right s.count s.rows) (ap is_said t.columns ∙ is-given (given 1 ls) (columns_said ls)) t.output ∙
      ap (λ c. given 1 ls && given 2 ls && c)
      (ap (λ c. count_right c s.rows) t.count ∙ right-given (given 4 ls) (count_said ls) s.rows ∙
      ap (λ r. not (given 4 ls) || eqb (count_said ls) r) t.rows)

  kind_told : kind_or_fd s.kind ≡ kind_said ls
  unfolding kind_or_fd kind_said
  kind_told = ap kind_or_fd t.kind ∙ go (given 3 ls) refl
    where
      go : (q : Bool) → given 3 ls ≡ q → kind_or_fd (given_value q (kind_said ls)) ≡ said 3 kind_in Fd ls
      go true e = refl
      go false e = sym (said_none 3 kind_in Fd ls e)

-- One line more: what it leaves alone, and what it says.
module _ (ls : List Line) (l : Line) where
  abbrev more : List Line
  more = ls ++ (l ∷ [])

  given-same : (k : ℕ) → eqb (sort l) k ≡ false → given k more ≡ given k ls
  given-same k e = given-more k ls l ∙ ap (λ q. given k ls || q) e ∙ or_false (given k ls)

  given_now : (k : ℕ) → eqb (sort l) k ≡ true → given k more ≡ true
  given_now k e = given-more k ls l ∙ ap (λ q. given k ls || q) e ∙ go (given k ls)
    where
      go : (a : Bool) → a || true ≡ true
      go true = refl
      go false = refl

  rows_same : row_said l ≡ [] → rows_said more ≡ rows_said ls
  rows_same e = rows_more ls l ∙ ap (λ r. rows_said ls ++ r) e ∙ append-nil (rows_said ls)

  module _ (s : State) (t : Told s ls) where
    keep-columns : eqb (sort l) 1 ≡ false → s.columns ≡ given_value (given 1 more) (columns_said more)
    unfolding columns_said
    keep-columns e = t.columns ∙ ap₂ given_value (sym (given-same 1 e)) (sym (said_more 1 columns_in 0 ls l e))

    keep_output : eqb (sort l) 2 ≡ false → s.output ≡ given 2 more
    keep_output e = t.output ∙ sym (given-same 2 e)

    keep-kind : eqb (sort l) 3 ≡ false → s.kind ≡ given_value (given 3 more) (kind_said more)
    unfolding kind_said
    keep-kind e = t.kind ∙ ap₂ given_value (sym (given-same 3 e)) (sym (said_more 3 kind_in Fd ls l e))

    keep-count : eqb (sort l) 4 ≡ false → s.count ≡ given_value (given 4 more) (count_said more)
    unfolding count_said
    keep-count e = t.count ∙ ap₂ given_value (sym (given-same 4 e)) (sym (said_more 4 count_in 0 ls l e))

    keep-rows : row_said l ≡ [] → s.rows ≡ length (rows_said more)
    keep-rows r = t.rows ∙ ap length (sym (rows_same r))

    keep-given-rows : eqb (sort l) 5 ≡ false → row_said l ≡ [] → given 5 more ≡ not (eqb (length (rows_said more)) 0)
    keep-given-rows e r = given-same 5 e ∙ t.given-rows ∙ ap (λ x. not (eqb (length x) 0)) (sym (rows_same r))

-- A directive is legal only where none of its sort was given.
none-given : (a b c : Bool) → a && not b && c ≡ true → b ≡ false
none-given true true c e = absurd (false≢true e)
none-given true false c e = refl
none-given false true c e = absurd (false≢true e)
none-given false false c e = refl

no_other : (a b : Bool) → a && not b ≡ true → b ≡ false
no_other true true e = absurd (false≢true e)
no_other true false e = refl
no_other false true e = absurd (false≢true e)
no_other false false e = refl

-- What a directive or a row says after lines that did not.
columns_now : (ls : List Line) (n : ℕ) → given 1 ls ≡ false
    → Some n ≡ given_value (given 1 (ls ++ (Columns n ∷ []))) (columns_said (ls ++ (Columns n ∷ [])))
unfolding columns_said sort columns_in
columns_now ls n e =
    sym (ap₂ given_value (given_now ls (Columns n) 1 refl) (said-first 1 columns_in 0 ls (Columns n) e refl))

kind_now : (ls : List Line) (d : Kind) → given 3 ls ≡ false
    → Some d ≡ given_value (given 3 (ls ++ (Typed d ∷ []))) (kind_said (ls ++ (Typed d ∷ [])))
unfolding kind_said sort kind_in
kind_now ls d e = sym (ap₂ given_value (given_now ls (Typed d) 3 refl) (said-first 3 kind_in Fd ls (Typed d) e refl))

count_now : (ls : List Line) (n : ℕ) → given 4 ls ≡ false
    → Some n ≡ given_value (given 4 (ls ++ (Count n ∷ []))) (count_said (ls ++ (Count n ∷ [])))
unfolding count_said sort count_in
count_now ls n e = sym (ap₂ given_value (given_now ls (Count n) 4 refl) (said-first 4 count_in 0 ls (Count n) e refl))

row-length : (ls : List Line) (n x : ℕ) (o : Out) → length (rows_said (ls ++ (Row n x o ∷ []))) ≡ length (rows_said ls) + 1
unfolding row_said
row-length ls n x o = ap length (rows_more ls (Row n x o)) ∙ length-append (rows_said ls) (row_of n x o ∷ [])

row_now : (s : State) (ls : List Line) (n x : ℕ) (o : Out) → Told s ls → s.rows + 1 ≡ length (rows_said (ls ++ (Row n x o ∷ [])))
row_now s ls n x o t = ap (λ k. k + 1) t.rows ∙ sym (row-length ls n x o)

row-given : (ls : List Line) (n x : ℕ) (o : Out) → true ≡ not (eqb (length (rows_said (ls ++ (Row n x o ∷ [])))) 0)
row-given ls n x o = sym (ap not (ne_eqb (length (rows_said (ls ++ (Row n x o ∷ [])))) 0 (λ z. let b : ⊥ = omega (arith, z, row-length ls n x o) in b)))

-- The state after a legal line tells what the lines with it say.
told-after : (asked : ℕ) (s : State) (ls : List Line) (l : Line) → Told s ls → is_end l ≡ false → legal_after asked ls l ≡ true
    → Told (after s l) (ls ++ (l ∷ []))
unfolding after with_columns with_output with_kind with_count with_row sort row_said is_end legal_after
told-after asked s ls Empty t e g =
    record {
      columns = keep-columns ls Empty s t refl;
      output = keep_output ls Empty s t refl;
      kind = keep-kind ls Empty s t refl;
      count = keep-count ls Empty s t refl;
      rows = keep-rows ls Empty s t refl;
      given-rows = keep-given-rows ls Empty s t refl refl;
    }
told-after asked s ls (Columns n) t e g =
    record {
      columns = columns_now ls n (none-given (not (given 5 ls)) (given 1 ls) (allows_columns asked n) g);
      output = keep_output ls (Columns n) s t refl;
      kind = keep-kind ls (Columns n) s t refl;
      count = keep-count ls (Columns n) s t refl;
      rows = keep-rows ls (Columns n) s t refl;
      given-rows = keep-given-rows ls (Columns n) s t refl refl;
    }
told-after asked s ls Output t e g =
    record {
      columns = keep-columns ls Output s t refl;
      output = sym (given_now ls Output 2 refl);
      kind = keep-kind ls Output s t refl;
      count = keep-count ls Output s t refl;
      rows = keep-rows ls Output s t refl;
      given-rows = keep-given-rows ls Output s t refl refl;
    }
told-after asked s ls (Typed d) t e g =
    record {
      columns = keep-columns ls (Typed d) s t refl;
      output = keep_output ls (Typed d) s t refl;
      kind = kind_now ls d (none-given (not (given 5 ls)) (given 3 ls) (allows_kind asked d) g);
      count = keep-count ls (Typed d) s t refl;
      rows = keep-rows ls (Typed d) s t refl;
      given-rows = keep-given-rows ls (Typed d) s t refl refl;
    }
told-after asked s ls (Count n) t e g =
    record {
      columns = keep-columns ls (Count n) s t refl;
      output = keep_output ls (Count n) s t refl;
      kind = keep-kind ls (Count n) s t refl;
      count = count_now ls n (no_other (not (given 5 ls)) (given 4 ls) g);
      rows = keep-rows ls (Count n) s t refl;
      given-rows = keep-given-rows ls (Count n) s t refl refl;
    }
told-after asked s ls (Row n x o) t e g =
    record {
      columns = keep-columns ls (Row n x o) s t refl;
      output = keep_output ls (Row n x o) s t refl;
      kind = keep-kind ls (Row n x o) s t refl;
      count = keep-count ls (Row n x o) s t refl;
      rows = row_now s ls n x o t;
      given-rows = given_now ls (Row n x o) 5 refl ∙ row-given ls n x o;
    }
told-after asked s ls End t e g = absurd (true≢false e)
told-after asked s ls Bad t e g = absurd (false≢true g)

-- Rows put before those of an outcome.
abbrev with_rows : List Rows.Row → Outcome → Outcome
with_rows xs (good n t rs) = good n t (xs ++ rs)
with_rows xs (fault k) = fault k

with_none : (w : Outcome) → with_rows [] w ≡ w
with_none (good n t rs) = refl
with_none (fault k) = refl

with_both : (xs ys : List Rows.Row) (w : Outcome) → with_rows xs (with_rows ys w) ≡ with_rows (xs ++ ys) w
with_both xs ys (good n t rs) = ap (good n t) (sym (append_assoc xs ys rs))
with_both xs ys (fault k) = refl

put_with : (r : Rows.Row) (w : Outcome) → put_row r w ≡ with_rows (r ∷ []) w
unfolding put_row
put_with r (good n t rs) = refl
put_with r (fault k) = refl

add_with : (l : Line) (w : Outcome) → add_row l w ≡ with_rows (row_said l) w
unfolding add_row row_said
add_with Empty w = sym (with_none w)
add_with (Columns n) w = sym (with_none w)
add_with Output w = sym (with_none w)
add_with (Typed t) w = sym (with_none w)
add_with (Count n) w = sym (with_none w)
add_with (Row n x o) w = put_with (row_of n x o) w
add_with End w = sym (with_none w)
add_with Bad w = sym (with_none w)

-- The outcome after some lines, with a state and without.
end-given : (b : Bool) (x : ℕ) (s : State) (k : ℕ)
    → end_with (given_value b x) s k ≡ cond (b && complete s) (good x (kind_of (kind_or_fd s.kind)) []) (fault k)
unfolding end_with
end-given true x s k = refl
end-given false x s k = refl

whole-given : (ls : List Line) → given 1 ls && whole ls ≡ whole ls
unfolding whole
whole-given ls = go (given 1 ls) (given 2 ls) (not (given 4 ls) || eqb (count_said ls) (length (rows_said ls)))
  where
    go : (a b c : Bool) → a && (a && b && c) ≡ a && b && c
    go true b c = refl
    go false b c = refl

finish-closed : (asked : ℕ) (s : State) (ls : List Line) → Told s ls → with_rows (rows_said ls) (finish s (length ls + 1)) ≡ closed ls
unfolding finish closed
finish-closed asked s ls t =
    ap (λ c. with_rows (rows_said ls) (end_with c s (length ls + 1))) t.columns ∙
    ap (with_rows (rows_said ls)) (end-given (given 1 ls) (columns_said ls) s (length ls + 1)) ∙
    ap₂ (λ q d. with_rows (rows_said ls) (cond q (good (columns_said ls) (kind_of d) []) (fault (length ls + 1))))
    (ap (λ q. given 1 ls && q) (complete-whole asked s ls t) ∙ whole-given ls) (kind_told asked s ls t) ∙
    go (whole ls)
  where
    go : (q : Bool) → with_rows (rows_said ls) (cond q (good (columns_said ls) (kind_of (kind_said ls)) []) (fault (length ls + 1)))
        ≡ cond q (good (columns_said ls) (kind_of (kind_said ls)) (rows_said ls)) (fault (length ls + 1))
    go true = ap (good (columns_said ls) (kind_of (kind_said ls))) (append-nil (rows_said ls))
    go false = refl

ended : (asked : ℕ) (s : State) (l : Line) → is_end l ≡ true → step asked s l ≡ Ended
unfolding is_end step
ended asked s Empty e = absurd (false≢true e)
ended asked s (Columns n) e = absurd (false≢true e)
ended asked s Output e = absurd (false≢true e)
ended asked s (Typed t) e = absurd (false≢true e)
ended asked s (Count n) e = absurd (false≢true e)
ended asked s (Row n x o) e = absurd (false≢true e)
ended asked s End e = refl
ended asked s Bad e = absurd (false≢true e)

-- One line, given what follows it.
module _ (asked : ℕ) (s : State) (before : List Line) (l : Line) (t : Told s before)
    (rest : State → Outcome) (tail : Outcome)
    (ih : (s' : State) → Told s' (before ++ (l ∷ [])) → with_rows (rows_said (before ++ (l ∷ []))) (rest s') ≡ tail) where
  abbrev here : ℕ
  here = length before + 1

  legal_line : is_end l ≡ false → (q : Bool) → legal_after asked before l ≡ q
      → with_rows (rows_said before) (follow (legal q (after s l)) here (finish s here) rest l) ≡ cond q tail (fault here)
  unfolding legal follow
  legal_line e true g =
      ap (with_rows (rows_said before)) (add_with l (rest (after s l))) ∙
      with_both (rows_said before) (row_said l) (rest (after s l)) ∙
      ap (λ r. with_rows r (rest (after s l))) (sym (rows_more before l)) ∙
      ih (after s l) (told-after asked s before l t e g)
  legal_line e false g = refl

  one_line : (q : Bool) → is_end l ≡ q
      → with_rows (rows_said before) (follow (step asked s l) here (finish s here) rest l)
      ≡ closing q (closed before) (cond (legal_after asked before l) tail (fault here))
  unfolding closing follow
  one_line true e =
      ap (λ p. with_rows (rows_said before) (follow p here (finish s here) rest l)) (ended asked s l e) ∙
      finish-closed asked s before t
  one_line false e =
      ap (λ p. with_rows (rows_said before) (follow p here (finish s here) rest l)) (legal-step asked s before t l e) ∙
      legal_line e (legal_after asked before l) refl

run-after : (asked : ℕ) (s : State) (before : List Line) (ls : List (List ℕ)) → Told s before
    → with_rows (rows_said before) (run asked s (length before + 1) ls) ≡ outcome_after asked before (map meaning ls)
unfolding run outcome_after
run-after asked s before [] t = finish-closed asked s before t
run-after asked s before (b ∷ ls) t =
    one_line asked s before (meaning b) t
    (λ s'. run asked s' (length before + 1 + 1) ls)
    (outcome_after asked (before ++ (meaning b ∷ [])) (map meaning ls))
    (λ s' t'.
    ap (λ k. with_rows (rows_said (before ++ (meaning b ∷ []))) (run asked s' (k + 1) ls)) (sym (length-append before (meaning b ∷ []))) ∙
    run-after asked s' (before ++ (meaning b ∷ [])) ls t')
    (is_end (meaning b)) refl

-- The theorem.
pub outcome_stateless : (asked : ℕ) (text : List ℕ) → outcome asked text ≡ stateless_outcome asked text
unfolding outcome stateless_outcome rows_said
outcome_stateless asked text =
    sym (with_none (run asked start 1 (lines text))) ∙ run-after asked start [] (lines text) told-start
