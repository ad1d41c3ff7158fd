-- Reading a candidate: the second pass takes the rows of a good text, one line at a time; and the answer, test by test.
use mathlib.Core.Path.{◌≡◌, refl, sym, ap, ap₂, ◌∙◌, subst}
use mathlib.Core.Bool.{Bool, true, false, cond, ◌&&◌, ◌||◌, false≢true}
use mathlib.Core.List.{List, [], ◌∷◌, ◌++◌}
use Prim.Native.Nat.{ℕ, zero, suc, ◌+◌, ◌<◌, ◌≤◌}
use native.Mathlib.Nat.{zero-add}
use native.Mathlib.Omega.{arith}
use lib.Dec.{eqb, leb, eqb-suc-zero}
use lib.ListN.{length, set, length-map}
use lib.Seq.{sets}
use borrow.Author.Tests.{le-leb, lt-leb, ne_eqb, leb-true}
use Rattle.std.specs.Prelude.{Result, Ok, Err, Some, None, MatchResult, is_ok}
use Rattle.rule.specs.Number.{cube_number, signs}
use Rattle.rule.specs.Refusal.{first_broken, number_of, refusal_of}
use Rattle.rule.specs.Rows as Rows
use Rattle.rule.specs.declared.refusal.Refusal.{Refusal}
use Rattle.rule.specs.declared.refusal.Refusal.TheVariants.{ColumnsOver, ListOver, ListLacks, TextOver, TextFault}
use Rattle.rule.specs.declared.refusal.Refused.{Refused}
use Rattle.rule.proofs.Number.{cube_number-signs}
use Rattle.rule.proofs.Refusals.{number_one, first_named}
use Rattle.line.specs.Bytes.{lines}
use Rattle.line.specs.Meaning.{meaning, is_end, kind_of, row_of}
use Rattle.line.proofs.Lines.{row_fine}
use Rattle.line.specs.declared.meaning.Out.{Out}
use Rattle.line.specs.declared.meaning.Line.{Line}
use Rattle.line.specs.declared.meaning.Line.TheVariants.{Empty, Columns, Output, Typed, Count, Row, End, Bad}
use Rattle.text.specs.Outcome.{Outcome, good, fault, legal, step, complete, kind_or_fd, end_with, finish, put_row, add_row, follow, run, start, outcome}
use Rattle.text.specs.Judged.{judged_plus, judged}
use Rattle.text.specs.Room.{cleared, padded, Put}
use Rattle.text.specs.Candidate.{is_good, fault_line, cubes_of, read_conditions, read_returns, read_by, read_answer, read_numbers, numbers_for, list_by, list_read, Read, row_number, row_numbers}
use Rattle.text.specs.declared.judge.State.{State}
use Rattle.text.specs.declared.judge.Step.{Step}
use Rattle.text.specs.declared.judge.Step.TheVariants.{On, Fault, Ended}
use Rattle.text.specs.declared.judge.Shape.{Shape}
use Rattle.text.proofs.NextLine.{Took}
use Rattle.text.proofs.Ends.{is_end-others}
use Rattle.text.proofs.Room.{Left, left-put, cleared-padded}

-- The rows of a text, a line at a time.
row_none : (l : Line) → (l ≡ End → ⊥) → ((n x : ℕ) (o : Out) → l ≡ Row n x o → ⊥) → row_number l ≡ []
unfolding row_number
row_none Empty h g = refl
row_none (Columns n) h g = refl
row_none Output h g = refl
row_none (Typed t) h g = refl
row_none (Count n) h g = refl
row_none (Row n x o) h g = absurd (g n x o refl)
row_none End h g = refl
row_none Bad h g = refl

pub rows-over : (text : List ℕ) → lines text ≡ [] → row_numbers (lines text) ≡ []
unfolding row_numbers
rows-over text e = ap row_numbers e

module _ (text : List ℕ) (l : Line) (rest : List ℕ) (t : Took text l rest) where
  unrolled : row_numbers (lines text) ≡ cond (is_end l) [] (row_number l ++ row_numbers (lines rest))
  unfolding row_numbers
  unrolled =
      ap row_numbers t.unrolls ∙ ap (λ l. cond (is_end l) [] (row_number l ++ row_numbers (lines rest))) (sym t.means)

  pub rows_end : is_end l ≡ true → row_numbers (lines text) ≡ []
  rows_end e = unrolled ∙ rw e

  pub rows_on : is_end l ≡ false → row_numbers (lines text) ≡ row_number l ++ row_numbers (lines rest)
  rows_on e = unrolled ∙ rw e

  pub row_more : (n x : ℕ) (o : Out) → l ≡ Row n x o → row_numbers (lines text) ≡ x ∷ row_numbers (lines rest)
  unfolding is_end row_number
  row_more n x o e = rows_on (ap is_end e) ∙ ap (λ l. row_number l ++ row_numbers (lines rest)) e

  pub row_same : (l ≡ End → ⊥) → ((n x : ℕ) (o : Out) → l ≡ Row n x o → ⊥) → row_numbers (lines text) ≡ row_numbers (lines rest)
  row_same h g = rows_on (is_end-others l h) ∙ ap (λ r. r ++ row_numbers (lines rest)) (row_none l h g)

  -- A row's cube is put, and the others are left.
  pub put_row-left : {room : List ℕ} {i : ℕ} {whole room' : List ℕ} {r : ℕ} → Left room i whole room' r (row_numbers (lines text))
      → (n x : ℕ) (o : Out) → l ≡ Row n x o → Left room i whole (set room' r x) (r + 1) (row_numbers (lines rest))
  put_row-left {room} {i} {whole} {room'} {r} q n x o e =
      left-put {a = x ∷ []} (row_numbers (lines rest)) (subst (Left room i whole room' r) (row_more n x o e) q)
      (record { stored = refl; next = refl })

-- The rows of a good text are those of the second pass.
legal-goes : {A : Type 0} (q : Bool) (t : State) → legal q t ≡ Ended → A
unfolding legal
legal-goes true t e = absurd (cc)
legal-goes false t e = absurd (cc)

pub ended_is_end : (asked : ℕ) (s : State) (l : Line) → step asked s l ≡ Ended → is_end l ≡ true
unfolding step is_end
ended_is_end asked s Empty e = absurd (cc)
ended_is_end asked s (Columns n) e = legal-goes _ _ e
ended_is_end asked s Output e = legal-goes _ _ e
ended_is_end asked s (Typed t) e = legal-goes _ _ e
ended_is_end asked s (Count n) e = legal-goes _ _ e
ended_is_end asked s (Row n x o) e = legal-goes _ _ e
ended_is_end asked s End e = refl
ended_is_end asked s Bad e = absurd (cc)

pub on-is_not_end : (asked : ℕ) (s s' : State) (l : Line) → step asked s l ≡ On s' → is_end l ≡ false
unfolding step
on-is_not_end asked s s' l e = is_end-others l (λ h. go l h e)
  where
    go : (l : Line) → l ≡ End → step asked s l ≡ On s' → ⊥
    go l h e = let x : Ended ≡ On s' = sym (ap (step asked s) h) ∙ e in cc

put-cubes_of : (r : Rows.Row) (w : Outcome) → is_good (put_row r w) ≡ true
    → (is_good w ≡ true) × (cubes_of (put_row r w) ≡ cube_number r.cube ∷ cubes_of w)
unfolding is_good put_row cubes_of
put-cubes_of r (good n t rs) e = (refl, refl)
put-cubes_of r (fault k) e = absurd (false≢true e)

added : (l : Line) (w : Outcome) (xs : List ℕ) → ((n x : ℕ) (o : Out) → l ≡ Row n x o → cube_number (signs n x) ≡ x)
    → is_good (add_row l w) ≡ true → (is_good w ≡ true → cubes_of w ≡ xs) → cubes_of (add_row l w) ≡ row_number l ++ xs
unfolding add_row row_number row_of
added Empty w xs f g h = h g
added (Columns n) w xs f g h = h g
added Output w xs f g h = h g
added (Typed t) w xs f g h = h g
added (Count n) w xs f g h = h g
added (Row n x o) w xs f g h =
    let p = put-cubes_of (row_of n x o) w g in
    p.1 ∙ ap₂ (λ y ys. y ∷ ys) (f n x o refl) (h p.0)
added End w xs f g h = h g
added Bad w xs f g h = h g

finished : (s : State) (k : ℕ) → cubes_of (finish s k) ≡ []
unfolding finish end_with cubes_of
finished s k = elim s.columns as (λ c. cubes_of (end_with c s k) ≡ []) [ Some n ↦ go n (complete s) | None ↦ refl ]
  where
    go : (n : ℕ) (q : Bool) → cubes_of (cond q (good n (kind_of (kind_or_fd s.kind)) []) (fault k)) ≡ []
    go n true = refl
    go n false = refl

good-rows : (asked : ℕ) (s : State) (k : ℕ) (ls : List (List ℕ)) → is_good (run asked s k ls) ≡ true
    → cubes_of (run asked s k ls) ≡ row_numbers ls
unfolding run row_numbers follow is_good
good-rows asked s k [] g = finished s k
good-rows asked s k (l ∷ ls) g =
    go (step asked s (meaning l)) refl g (λ s'. good-rows asked s' (k + 1) ls)
  where
    formed : (n x : ℕ) (o : Out) → meaning l ≡ Row n x o → cube_number (signs n x) ≡ x
    formed n x o e = cube_number-signs n x (row_fine l n x o e).formed

    go : (t : Step) → step asked s (meaning l) ≡ t
        → is_good (follow t k (finish s k) (λ s'. run asked s' (k + 1) ls) (meaning l)) ≡ true
        → ((s' : State) → is_good (run asked s' (k + 1) ls) ≡ true → cubes_of (run asked s' (k + 1) ls) ≡ row_numbers ls)
        → cubes_of (follow t k (finish s k) (λ s'. run asked s' (k + 1) ls) (meaning l))
        ≡ cond (is_end (meaning l)) [] (row_number (meaning l) ++ row_numbers ls)
    go (On s') e f h =
        added (meaning l) (run asked s' (k + 1) ls) (row_numbers ls) formed f (h s') ∙
        rw (on-is_not_end asked s s' (meaning l) e)
    go Fault e f h = absurd (false≢true f)
    go Ended e f h = finished s k ∙ rw (ended_is_end asked s (meaning l) e)

-- What a text's shape says of its outcome.
pub faulty_outcome : (w : Outcome) (k : ℕ) → Err k ≡ judged w → w ≡ fault k
unfolding judged judged_plus
faulty_outcome (good n t rs) k e = absurd (cc)
faulty_outcome (fault j) k e = ap fault (cc)

good-outcome : (w : Outcome) (x : Shape) → Ok x ≡ judged w → (is_good w ≡ true) × (x.rows ≡ length (cubes_of w))
unfolding judged judged_plus is_good cubes_of
good-outcome (good j u rs) x e =
    let f : x.rows ≡ 0 + length rs = cc in
    (refl, f ∙ zero-add (length rs) ∙ sym (length-map rs (λ r. cube_number r.cube)))
good-outcome (fault j) x e = absurd (cc)

-- A refusal is what it refuses by and what it returns.
pub refused_is : (x : Refused) {r : Refusal} {k : ℕ} → x.refusal ≡ r → x.returned ≡ k → x ≡ record { refusal = r; returned = k }
refused_is x e d = λ i. record { refusal = e i; returned = d i }

-- What the judging told, from what `map_err` made of it.
abbrev without_refusal : Result Shape Refused → Result Shape ℕ
without_refusal (Ok x) = Ok x
without_refusal (Err e) = Err 0

pub told-Ok : (r : Result Shape ℕ) (x : Shape) → MatchResult r (λ y. ◌≡◌ {A = Result Shape Refused} (Ok x) (Ok y)) (λ k. ⊥)
    → Ok x ≡ r
told-Ok (Ok y) x q = ap without_refusal q
told-Ok (Err k) x q = absurd q

pub told-Err : (r : Result Shape ℕ) (P : Shape → Type 0) (Q : ℕ → Type 0) (x : Refused) → false ≡ is_ok r → MatchResult r P Q
    → ((k : ℕ) → Q k → (x.refusal ≡ TextFault) × (x.returned ≡ k))
    → (k : ℕ) × (Err k ≡ r) × (x ≡ record { refusal = TextFault; returned = k })
told-Err (Ok y) P Q x v q f = absurd (false≢true v)
told-Err (Err k) P Q x v q f = (k, refl, refused_is x (f k q).0 (f k q).1)

-- The answer, test by test.
module _ (n : ℕ) (text : List ℕ) (room : ℕ) where
  pub asks_no_columns : n < 1 → Err (record { refusal = ColumnsOver; returned = 0 }) ≡ read_answer n text room
  unfolding read_answer read_conditions first_broken read_by read_returns refusal_of
  asks_no_columns h = rw (lt-leb 1 n h)

  module _ (l : 1 ≤ n) where
    pub asks_over-columns : 16 < n → Err (record { refusal = ColumnsOver; returned = 0 }) ≡ read_answer n text room
    unfolding read_answer read_conditions first_broken read_by read_returns refusal_of
    asks_over-columns h = rw (le-leb 1 n l) (rw (lt-leb n 16 h))

    module _ (h : n ≤ 16) where
      pub over-text : 32768 < length text → Err (record { refusal = TextOver; returned = 0 }) ≡ read_answer n text room
      unfolding read_answer read_conditions first_broken read_by read_returns refusal_of
      over-text b = rw (le-leb 1 n l) (rw (le-leb n 16 h) (rw (lt-leb (length text) 32768 b)))

      module _ (b : length text ≤ 32768) where
        pub over-room : 16384 < room → Err (record { refusal = ListOver; returned = 0 }) ≡ read_answer n text room
        unfolding read_answer read_conditions first_broken read_by read_returns refusal_of
        over-room r = rw (le-leb 1 n l) (rw (le-leb n 16 h) (rw (le-leb (length text) 32768 b) (rw (lt-leb room 16384 r))))

        module _ (r : room ≤ 16384) where
          pub text_faulty : (k : ℕ) → Err k ≡ judged (outcome n text)
              → Err (record { refusal = TextFault; returned = k }) ≡ read_answer n text room
          unfolding read_answer read_conditions first_broken read_by read_returns refusal_of is_good fault_line cubes_of
          text_faulty k e =
              rw (faulty_outcome (outcome n text) k e)
              (rw (le-leb 1 n l) (rw (le-leb n 16 h) (rw (le-leb (length text) 32768 b) (rw (le-leb room 16384 r)))))

          module _ (x : Shape) (e : Ok x ≡ judged (outcome n text)) where
            whole : (is_good (outcome n text) ≡ true) × (x.rows ≡ length (cubes_of (outcome n text)))
            whole = good-outcome (outcome n text) x e

            pub room-short : room < x.rows → Err (record { refusal = ListLacks; returned = x.rows }) ≡ read_answer n text room
            unfolding read_answer read_conditions first_broken read_by read_returns refusal_of
            room-short q =
                ap (λ k. Err (record { refusal = ListLacks; returned = k })) whole.1 ∙
                rw (le-leb 1 n l) (rw (le-leb n 16 h) (rw (le-leb (length text) 32768 b) (rw (le-leb room 16384 r)
                (rw whole.0 (rw (lt-leb (length (cubes_of (outcome n text))) room (subst (λ j. room < j) whole.1 q)))))))

            pub room_enough : x.rows ≤ room → Ok x.rows ≡ read_answer n text room
            unfolding read_answer read_conditions first_broken read_by read_returns
            room_enough q =
                ap Ok whole.1 ∙
                rw (le-leb 1 n l) (rw (le-leb n 16 h) (rw (le-leb (length text) 32768 b) (rw (le-leb room 16384 r)
                (rw whole.0 (rw (le-leb (length (cubes_of (outcome n text))) room (subst (λ j. j ≤ room) whole.1 q)))))))

-- What an answer says of the room.
kept-first : (b : Bool) (x k : ℕ) → cond b x (suc k) ≡ 0 → (b ≡ true) × (x ≡ 0)
kept-first true x k e = (refl, e)
kept-first false x k e = let z : ⊥ = omega arith in absurd z

-- What the second pass asks and gives once nothing is refused.
pub record Takes (n : ℕ) (text : List ℕ) (room : List ℕ) : Type 0 where
  pub short : length text ≤ 32768
  pub same : row_numbers (lines text) ≡ cubes_of (outcome n text)
  pub fits : length (cubes_of (outcome n text)) ≤ length room
  pub left : padded (cubes_of (outcome n text)) room ≡ list_read n text room

module _ (n : ℕ) (text : List ℕ) (room : List ℕ) where
  abbrev broken : ℕ
  broken = first_broken (read_conditions n text (length room))

  none-broken : broken ≡ 0 → Takes n text room
  unfolding read_conditions first_broken outcome list_read list_by
  none-broken e =
      let a = kept-first (leb 1 n && leb n 16) _ 0 e in
      let b = kept-first (leb (length text) 32768) _ 9 a.1 in
      let d = kept-first (leb (length room) 16384) _ 5 b.1 in
      let g = kept-first (is_good (outcome n text)) _ 10 d.1 in
      let f = kept-first (leb (length (cubes_of (outcome n text))) (length room)) _ 7 g.1 in
      record {
        short = leb-true (length text) 32768 b.0;
        same = sym (good-rows n start 1 (lines text) g.0);
        fits = leb-true (length (cubes_of (outcome n text))) (length room) f.0;
        left = ap (λ r. list_by r (outcome n text) room) (sym e);
      }

  pub done_takes : (k : ℕ) → Ok k ≡ read_answer n text (length room) → Takes n text room
  unfolding read_answer read_by
  done_takes k e = go broken refl
    where
      go : (r : ℕ) → broken ≡ r → Takes n text room
      go zero z = none-broken z
      go (suc r) z =
          let g : Ok k ≡ read_by (suc r) (outcome n text) = e ∙ ap (λ q. read_by q (outcome n text)) z in
          absurd (cc)

  -- The second pass, and zeros past it, leave what is promised.
  pub done-left : Takes n text room → {room' : List ℕ} {r : ℕ} → Put room 0 (row_numbers (lines text)) room' r
      → cleared r room' ≡ list_read n text room
  done-left t p =
      let e : _ ≡ length (cubes_of (outcome n text)) = omega (arith, p.next, ap length t.same) in
      ap₂ cleared e (p.stored ∙ ap (sets room 0) t.same) ∙ cleared-padded room (cubes_of (outcome n text)) t.fits ∙ t.left

  -- At a refusal the room is cleared by 8 and 11, and kept by the others.
  module _ (x : Refused) (e : Err x ≡ read_answer n text (length room)) where
    refused-number : broken ≡ number_of x.refusal
    unfolding read_answer read_by read_conditions
    refused-number = go broken refl
      where
        go : (r : ℕ) → broken ≡ r → broken ≡ number_of x.refusal
        go zero z = let g : Err x ≡ read_by 0 (outcome n text) = e ∙ ap (λ q. read_by q (outcome n text)) z in absurd (cc)
        go (suc r) z =
            let g : Err x ≡ read_by (suc r) (outcome n text) = e ∙ ap (λ q. read_by q (outcome n text)) z in
            let h : x.refusal ≡ refusal_of (suc r) = cc in
            z ∙ sym (first_named _ r refl z) ∙ ap number_of (sym h)

    refused_by : list_read n text room ≡ cond (eqb (number_of x.refusal) 11 || eqb (number_of x.refusal) 8) (cleared 0 room) room
    unfolding list_read list_by read_answer read_by
    refused_by = go broken refl
      where
        go : (r : ℕ) → broken ≡ r
            → list_by broken (outcome n text) room ≡ cond (eqb (number_of x.refusal) 11 || eqb (number_of x.refusal) 8) (cleared 0 room) room
        go zero z = let g : Err x ≡ read_by 0 (outcome n text) = e ∙ ap (λ q. read_by q (outcome n text)) z in absurd (cc)
        go (suc r) z =
            ap (λ q. list_by q (outcome n text) room) z ∙
            ap (λ q. cond (eqb q 11 || eqb q 8) (cleared 0 room) room) (sym z ∙ refused-number)

    pub cleared_by_fault : x.refusal ≡ TextFault → cleared 0 room ≡ list_read n text room
    cleared_by_fault h = sym (refused_by ∙ rw h)

    pub cleared_by_lack : x.refusal ≡ ListLacks → cleared 0 room ≡ list_read n text room
    cleared_by_lack h = sym (refused_by ∙ rw h)

    pub kept_by_others : (x.refusal ≡ TextFault → ⊥) → (x.refusal ≡ ListLacks → ⊥) → room ≡ list_read n text room
    kept_by_others g h =
        sym
        (refused_by ∙
        rw (ne_eqb (number_of x.refusal) 11 (λ q. g (number_one x.refusal TextFault q)))
        (rw (ne_eqb (number_of x.refusal) 8 (λ q. h (number_one x.refusal ListLacks q)))))

  -- The answer has the numbers of its refusal.
  answer-numbers : read_numbers (read_answer n text (length room)) ≡ numbers_for broken (outcome n text)
  unfolding read_numbers numbers_for read_by read_returns read_answer read_conditions
  answer-numbers = go broken refl
    where
      go : (r : ℕ) → broken ≡ r → read_numbers (read_by broken (outcome n text)) ≡ numbers_for broken (outcome n text)
      go zero z = ap (λ q. read_numbers (read_by q (outcome n text))) z ∙ ap (λ q. numbers_for q (outcome n text)) (sym z)
      go (suc r) z =
          ap (λ q. read_numbers (read_by q (outcome n text))) z ∙
          (λ i.
          record {
            refusal = first_named _ r refl z i;
            returned = read_returns (outcome n text) (suc r);
            rows = cond (sym (eqb-suc-zero r) i) (length (cubes_of (outcome n text))) 0;
          }) ∙
          ap (λ q. numbers_for q (outcome n text)) (sym z)

  pub has_taken : (room' : List ℕ) (w : Result ℕ Refused) → w ≡ read_answer n text (length room) → room' ≡ list_read n text room
      → Read n text room room' w
  has_taken room' w e f = record { answer = e; numbers = ap read_numbers e ∙ answer-numbers; left = f }
