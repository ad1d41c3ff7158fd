-- What is written reads back as the same rows in the same order. The text's lines are those that were put; each means what it was put
-- for; so the reader goes on to the end, row by row.
use mathlib.Core.Path.{◌≡◌, refl, ap, ap₂, ◌∙◌}
use mathlib.Core.Bool.{Bool, true, not, or-true}
use mathlib.Core.List.{List, [], ◌∷◌, ◌++◌, map, append_assoc}
use Prim.Native.Nat.{ℕ, suc, ◌+◌, ◌<◌, ◌≤◌}
use native.Mathlib.Omega.{arith}
use lib.Dec.{lit<}
use lib.ListN.{length, length-map}
use borrow.Author.Tests.{le-leb, eq-eqb}
use Rattle.std.specs.Prelude.{Some, None, Ok}
use Rattle.rule.specs.Cube.{sign0, sign1, dash, Cube}
use Rattle.rule.specs.Number.{signs, cube_number, well_formed, first_malformed}
use Rattle.rule.specs.Rows.{Row, fd, out1}
use Rattle.rule.specs.Marked.{same_list}
use Rattle.rule.proofs.Number.{length-signs, cube_number-signs}
use Rattle.rule.proofs.Delivered.{AllFormed}
use Rattle.rule.proofs.Malformed.{all-formed}
use Rattle.line.specs.Bytes.{bytes, is, is_newline, is_hash, is_blank, split, lines, fields, until, put_byte, words, filled, keep}
use Rattle.line.specs.Decimal.{all, decimal}
use Rattle.line.specs.Meaning.{is_sign, read_sign, columns_line, output_line, count_line, signed_line, is_cube, read_cube, row_line, pair_line, single_line, meaning_of, meaning, kind_of, out_of, row_of}
use Rattle.line.specs.declared.meaning.Out.TheVariants.{One}
use Rattle.line.specs.declared.meaning.Line.{Line}
use Rattle.line.proofs.Back.{none_of, all_append, Solid, split_piece, pair_newline, pair_fields, solid_decimal, number-decimal}
use Rattle.text.specs.Outcome.{good, start, with_columns, with_output, with_count, with_row, said, columns_are, allows_columns, allows_out, first, legal, step, count_right, complete, kind_or_fd, end_with, finish, put_row, add_row, follow, run, outcome}
use Rattle.text.specs.Writing.{sign_byte, row_text, rows_text, joined, text_parts, list_text}
use Rattle.rule.specs.Refusal.{first_broken}
use Rattle.text.specs.Room.{padded}
use Rattle.text.specs.Candidate.{is_good, cubes_of, read_conditions, read_by, read_answer, list_by, list_read}
use Rattle.text.specs.declared.judge.State.{State}
use Rattle.text.specs.declared.judge.Step.TheVariants.{On}

-- The line of a row, and the words of the directives.
row_bytes : Cube → List ℕ
row_bytes c = map sign_byte c ++ (32 ∷ 49 ∷ [])

signs_pass : (q : ℕ → Bool) → q 48 ≡ true → q 49 ≡ true → q 45 ≡ true → (c : Cube) → all q (map sign_byte c) ≡ true
unfolding all sign_byte
signs_pass q a b d [] = refl
signs_pass q a b d (sign0 ∷ c) = rw a (signs_pass q a b d c)
signs_pass q a b d (sign1 ∷ c) = rw b (signs_pass q a b d c)
signs_pass q a b d (dash ∷ c) = rw d (signs_pass q a b d c)

solid_signs : (c : Cube) → 0 < length c → Solid (map sign_byte c)
unfolding is_newline is_hash is_blank
solid_signs c h =
    record {
      some_byte = omega (arith, length-map c sign_byte);
      newline = signs_pass (λ b. not (is_newline b)) refl refl refl c;
      hash = signs_pass (λ b. not (is_hash b)) refl refl refl c;
      blank = signs_pass (λ b. not (is_blank b)) refl refl refl c;
    }

solid_one : Solid (49 ∷ [])
unfolding all is_newline is_hash is_blank
solid_one = record { some_byte = lit< tt; newline = refl; hash = refl; blank = refl }

solid_i : Solid (46 ∷ 105 ∷ [])
unfolding all is_newline is_hash is_blank
solid_i = record { some_byte = lit< tt; newline = refl; hash = refl; blank = refl }

solid_p : Solid (46 ∷ 112 ∷ [])
unfolding all is_newline is_hash is_blank
solid_p = record { some_byte = lit< tt; newline = refl; hash = refl; blank = refl }

-- What the lines mean.
means-columns : (n : ℕ) → 1 ≤ n → n ≤ 16 → meaning (46 ∷ 105 ∷ 32 ∷ decimal n) ≡ Line.Columns n
unfolding meaning meaning_of pair_line is bytes same_list columns_line
means-columns n l h =
    ap meaning_of (pair_fields (46 ∷ 105 ∷ []) (decimal n) solid_i (solid_decimal n)) ∙
    ap columns_line (number-decimal n (omega arith)) ∙ rw (le-leb 1 n l) (rw (le-leb n 16 h))

means-count : (m : ℕ) → m < 100000 → meaning (46 ∷ 112 ∷ 32 ∷ decimal m) ≡ Line.Count m
unfolding meaning meaning_of pair_line is bytes same_list count_line
means-count m h =
    ap meaning_of (pair_fields (46 ∷ 112 ∷ []) (decimal m) solid_p (solid_decimal m)) ∙ ap count_line (number-decimal m h)

means_output : meaning (46 ∷ 111 ∷ 32 ∷ 49 ∷ []) ≡ Line.Output
unfolding meaning meaning_of pair_line output_line is bytes same_list fields words split put_byte filled keep until is_hash is_blank
means_output = refl

means_end : meaning (46 ∷ 101 ∷ []) ≡ Line.End
unfolding meaning meaning_of single_line is bytes same_list fields words split put_byte filled keep until is_hash is_blank
means_end = refl

signs_back : (c : Cube) → read_cube (map sign_byte c) ≡ c
unfolding read_cube read_sign sign_byte
signs_back [] = refl
signs_back (sign0 ∷ c) = ap (λ r. sign0 ∷ r) (signs_back c)
signs_back (sign1 ∷ c) = ap (λ r. sign1 ∷ r) (signs_back c)
signs_back (dash ∷ c) = ap (λ r. dash ∷ r) (signs_back c)

no_directive : (c : Cube) → 0 < length c → pair_line (map sign_byte c) (49 ∷ []) ≡ row_line (map sign_byte c) (49 ∷ [])
unfolding pair_line is bytes same_list sign_byte
no_directive [] h = let z : ⊥ = omega arith in absurd z
no_directive (sign0 ∷ c) h = refl
no_directive (sign1 ∷ c) h = refl
no_directive (dash ∷ c) h = refl

means-cube : (c : Cube) → 0 < length c → length c ≤ 16 → meaning (row_bytes c) ≡ Line.Row (length c) (cube_number c) One
unfolding meaning meaning_of row_bytes row_line is_cube signed_line is bytes same_list is_sign
means-cube c l h =
    let a = map sign_byte c in
    let w : length a ≤ 16 = omega (arith, length-map c sign_byte) in
    ap meaning_of (pair_fields a (49 ∷ []) (solid_signs c l) solid_one) ∙ no_directive c l ∙
    rw (le-leb (length a) 16 w) (rw (signs_pass is_sign refl refl refl c)
    (ap₂ (λ k r. Line.Row k (cube_number r) One) (length-map c sign_byte) (signs_back c)))

means-row : (n x : ℕ) → 1 ≤ n → n ≤ 16 → well_formed n x ≡ true → meaning (row_bytes (signs n x)) ≡ Line.Row n x One
means-row n x l h f =
    let e = length-signs n x in
    means-cube (signs n x) (omega arith) (omega arith) ∙ ap₂ (λ k y. Line.Row k y One) e (cube_number-signs n x f)

-- The lines of a written text.
row_newline : (c : Cube) → none_of is_newline (row_bytes c) ≡ true
unfolding row_bytes is_newline all
row_newline c =
    all_append (λ b. not (is_newline b)) (map sign_byte c) (32 ∷ 49 ∷ []) (signs_pass (λ b. not (is_newline b)) refl refl refl c) refl

rows-lines : (n : ℕ) (xs tail : List ℕ)
    → lines (rows_text n xs ++ tail) ≡ map (λ x. row_bytes (signs n x)) xs ++ lines tail
unfolding lines rows_text row_text row_bytes bytes is_newline
rows-lines n [] tail = refl
rows-lines n (x ∷ xs) tail =
    let a = map sign_byte (signs n x) in
    let e : (a ++ (32 ∷ 49 ∷ 10 ∷ [])) ++ rows_text n xs ++ tail ≡ (a ++ (32 ∷ 49 ∷ [])) ++ (10 ∷ (rows_text n xs ++ tail)) =
    simp append_assoc
    in
    ap (split is_newline) e ∙ split_piece is_newline 10 refl (row_bytes (signs n x)) (rows_text n xs ++ tail) (row_newline (signs n x)) ∙
    ap (λ ls. row_bytes (signs n x) ∷ ls) (rows-lines n xs tail)

written-lines : (n : ℕ) (xs : List ℕ)
    → lines (list_text n xs)
    ≡ (46 ∷ 105 ∷ 32 ∷ decimal n) ∷ (46 ∷ 111 ∷ 32 ∷ 49 ∷ []) ∷ (46 ∷ 112 ∷ 32 ∷ decimal (length xs)) ∷
    (map (λ x. row_bytes (signs n x)) xs ++ ((46 ∷ 101 ∷ []) ∷ []))
unfolding lines list_text joined text_parts bytes split put_byte is_newline all
written-lines n xs =
    let m = length xs in
    let rows : List ℕ = rows_text n xs ++ (46 ∷ 101 ∷ 10 ∷ []) in
    let stated : List ℕ = 46 ∷ 112 ∷ 32 ∷ (decimal m ++ (10 ∷ rows)) in
    split_piece is_newline 10 refl (46 ∷ 105 ∷ 32 ∷ decimal n) (46 ∷ 111 ∷ 32 ∷ 49 ∷ 10 ∷ stated)
    (pair_newline (46 ∷ 105 ∷ []) (decimal n) solid_i (solid_decimal n)) ∙
    ap (λ ls. (46 ∷ 105 ∷ 32 ∷ decimal n) ∷ (46 ∷ 111 ∷ 32 ∷ 49 ∷ []) ∷ ls)
    (split_piece is_newline 10 refl (46 ∷ 112 ∷ 32 ∷ decimal m) rows
    (pair_newline (46 ∷ 112 ∷ []) (decimal m) solid_p (solid_decimal m)) ∙
    ap (λ ls. (46 ∷ 112 ∷ 32 ∷ decimal m) ∷ ls) (rows-lines n xs (46 ∷ 101 ∷ 10 ∷ [])))

-- A line that leads on.
run_on : (asked : ℕ) (s s' : State) (k : ℕ) (l : List ℕ) (ls : List (List ℕ)) (m : Line) → meaning l ≡ m → step asked s m ≡ On s'
    → run asked s k (l ∷ ls) ≡ add_row m (run asked s' (k + 1) ls)
unfolding run follow
run_on asked s s' k l ls m e f =
    ap (λ t. follow (step asked s t) k (finish s k) (λ u. run asked u (k + 1) ls) t) e ∙
    ap (λ t. follow t k (finish s k) (λ u. run asked u (k + 1) ls) m) f

-- The state in which j rows are still to come.
record Ready (n : ℕ) (s : State) (j : ℕ) : Type 0 where
  columns : s.columns ≡ Some n
  output : s.output ≡ true
  kind : s.kind ≡ None
  count : s.count ≡ Some (s.rows + j)

ready_ends : (n : ℕ) (s : State) (k : ℕ) → Ready n s 0 → finish s k ≡ good n fd []
unfolding finish end_with complete count_right kind_or_fd kind_of said
ready_ends n s k r =
    let e : s.rows + 0 ≡ s.rows = omega arith in
    rw r.columns (rw r.output (rw r.count (rw (eq-eqb (s.rows + 0) s.rows e) (rw r.kind refl))))

ready_row : (n x : ℕ) (s : State) (j : ℕ) → Ready n s (suc j) → step n s (Line.Row n x One) ≡ On (with_row s)
unfolding step legal columns_are allows_out
ready_row n x s j r = rw r.output (rw r.columns (rw (eq-eqb n n refl)))

ready_next : (n : ℕ) (s : State) (j : ℕ) → Ready n s (suc j) → Ready n (with_row s) j
unfolding with_row
ready_next n s j r =
    let e : s.rows + suc j ≡ s.rows + 1 + j = omega arith in
    record { columns = r.columns; output = r.output; kind = r.kind; count = r.count ∙ ap (λ (k : ℕ). Some k) e }

-- The row of a cube in a candidate.
unfoldable pub row_on : ℕ → ℕ → Row
row_on n x = record { cube = signs n x; out = out1 }

row_added : (n x : ℕ) (rs : List Row) → add_row (Line.Row n x One) (good n fd rs) ≡ good n fd (row_on n x ∷ rs)
unfolding add_row put_row row_of out_of row_on
row_added n x rs = refl

rows_run : (n : ℕ) (xs : List ℕ) (s : State) (k : ℕ) → 1 ≤ n → n ≤ 16 → AllFormed n xs → Ready n s (length xs)
    → run n s k (map (λ x. row_bytes (signs n x)) xs ++ ((46 ∷ 101 ∷ []) ∷ [])) ≡ good n fd (map (row_on n) xs)
unfolding run follow step AllFormed
rows_run n [] s k l h f r =
    ap (λ t. follow (step n s t) k (finish s k) (λ u. run n u (k + 1) []) t) means_end ∙ ready_ends n s k r
rows_run n (x ∷ xs) s k l h f r =
    run_on n s (with_row s) k (row_bytes (signs n x)) (map (λ y. row_bytes (signs n y)) xs ++ ((46 ∷ 101 ∷ []) ∷ [])) (Line.Row n x One)
    (means-row n x l h f.0) (ready_row n x s (length xs) r) ∙
    ap (add_row (Line.Row n x One)) (rows_run n xs (with_row s) (k + 1) l h f.1 (ready_next n s (length xs) r)) ∙ added
  where
    added : add_row (Line.Row n x One) (good n fd (map (row_on n) xs)) ≡ good n fd (row_on n x ∷ map (row_on n) xs)
    added = row_added n x (map (row_on n) xs)

-- The directives of a written text.
first-columns : (n : ℕ) → step n start (Line.Columns n) ≡ On (with_columns start n)
unfolding step first legal said allows_columns start
first-columns n = rw (eq-eqb n n refl) (simp or-true)

then_output : (n : ℕ) → step n (with_columns start n) Line.Output ≡ On (with_output (with_columns start n))
unfolding step first legal start with_columns
then_output n = refl

then_count : (n m : ℕ) → step n (with_output (with_columns start n)) (Line.Count m) ≡ On (with_count (with_output (with_columns start n)) m)
unfolding step first legal said start with_columns with_output
then_count n m = refl

then_ready : (n m : ℕ) → Ready n (with_count (with_output (with_columns start n)) m) m
unfolding start with_columns with_output with_count
then_ready n m =
    let e : m ≡ 0 + m = omega arith in
    record { columns = refl; output = refl; kind = refl; count = ap (λ (k : ℕ). Some k) e }

-- The theorem: a written list is a good candidate, and its rows are the cubes in order.
module _ (n : ℕ) (xs : List ℕ) (l : 1 ≤ n) (h : n ≤ 16) (f : first_malformed n xs ≡ 0) where
  pub written-reads : length xs < 100000 → outcome n (list_text n xs) ≡ good n fd (map (row_on n) xs)
  unfolding outcome add_row
  written-reads b =
      let m = length xs in
      let rows = map (λ x. row_bytes (signs n x)) xs ++ ((46 ∷ 101 ∷ []) ∷ []) in
      let counted : List ℕ = 46 ∷ 112 ∷ 32 ∷ decimal m in
      let output : List ℕ = 46 ∷ 111 ∷ 32 ∷ 49 ∷ [] in
      let s₁ = with_columns start n in
      let s₂ = with_output s₁ in
      ap (run n start 1) (written-lines n xs) ∙
      run_on n start s₁ 1 (46 ∷ 105 ∷ 32 ∷ decimal n) (output ∷ counted ∷ rows) (Line.Columns n) (means-columns n l h) (first-columns n) ∙
      run_on n s₁ s₂ 2 output (counted ∷ rows) Line.Output means_output (then_output n) ∙
      run_on n s₂ (with_count s₂ m) 3 counted rows (Line.Count m) (means-count m b) (then_count n m) ∙
      rows_run n xs (with_count s₂ m) 4 l h (all-formed n xs f) (then_ready n m)

cubes_back : (n : ℕ) (xs : List ℕ) → AllFormed n xs → map (λ r. cube_number r.cube) (map (row_on n) xs) ≡ xs
unfolding row_on AllFormed
cubes_back n [] f = refl
cubes_back n (x ∷ xs) f = ap₂ (λ y ys. y ∷ ys) (cube_number-signs n x f.0) (cubes_back n xs f.1)

-- The same at the entries: a list that was written, within 32,768 bytes, is read into a room that suffices as it was.
module _ (n : ℕ) (xs : List ℕ) (l : 1 ≤ n) (h : n ≤ 16) (few : length xs ≤ 16384) (f : first_malformed n xs ≡ 0)
    (short : length (list_text n xs) ≤ 32768) (room : List ℕ) (list : length room ≤ 16384) (enough : length xs ≤ length room) where
  read_whole : outcome n (list_text n xs) ≡ good n fd (map (row_on n) xs)
  read_whole = written-reads n xs l h f (omega arith)

  same-cubes : cubes_of (outcome n (list_text n xs)) ≡ xs
  unfolding cubes_of
  same-cubes = ap cubes_of read_whole ∙ cubes_back n xs (all-formed n xs f)

  nothing_broken : first_broken (read_conditions n (list_text n xs) (length room)) ≡ 0
  unfolding read_conditions first_broken is_good
  nothing_broken =
      let fits : length (cubes_of (outcome n (list_text n xs))) ≤ length room = omega (arith, ap length same-cubes) in
      rw (le-leb 1 n l) (rw (le-leb n 16 h) (rw (le-leb (length (list_text n xs)) 32768 short) (rw (le-leb (length room) 16384 list)
      (rw (ap is_good read_whole) (rw (le-leb (length (cubes_of (outcome n (list_text n xs)))) (length room) fits))))))

  pub written-answer : read_answer n (list_text n xs) (length room) ≡ Ok (length xs)
  unfolding read_answer read_by
  written-answer = ap (λ r. read_by r (outcome n (list_text n xs))) nothing_broken ∙ ap (λ (ys : List ℕ). Ok (length ys)) same-cubes

  pub written-list : list_read n (list_text n xs) room ≡ padded xs room
  unfolding list_read list_by
  written-list = ap (λ r. list_by r (outcome n (list_text n xs)) room) nothing_broken ∙ ap (λ ys. padded ys room) same-cubes
