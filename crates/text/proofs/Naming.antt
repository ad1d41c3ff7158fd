-- Naming the rows of a text through its lines: what one line names, what is left to name, and what does not fit.
use mathlib.Core.Path.{◌≡◌, refl, sym, ap, ◌∙◌, subst, subst⁻¹}
use mathlib.Core.List.{List, [], ◌∷◌, ◌++◌, append-nil, append_assoc}
use Prim.Native.Nat.{ℕ, ◌<◌}
use native.Mathlib.Omega.{arith}
use lib.ListN.{length}
use Rattle.std.specs.Prelude.{Option, Some, None}
use Rattle.rule.specs.Nodes.{add_all}
use Rattle.rule.specs.Rows.{Kind, Row, Part, on, part, set_of, upper_of, named_by, named_after}
use Rattle.rule.proofs.Growth.{more_no_shorter}
use Rattle.rule.proofs.Rows.{set_begins}
use Rattle.graph.specs.Table.{table_of, functions}
use Rattle.graph.specs.Sound.{Sound, RootedTwice}
use Rattle.graph.specs.Run.{Names}
use Rattle.graph.proofs.Tests.{constant-refers}
use Rattle.graph.proofs.Lending.{grown_slices}
use Rattle.graph.proofs.Numbers.{fn_zero}
use Rattle.line.specs.Bytes.{lines}
use Rattle.line.specs.Meaning.{is_end, row_of}
use Rattle.line.specs.declared.meaning.Out.{Out}
use Rattle.line.specs.declared.meaning.Line.{Line}
use Rattle.line.specs.declared.meaning.Line.TheVariants.{Empty, Columns, Output, Typed, Count, Row as a_row, End, Bad}
use Rattle.graph.specs.Built.{MadeOf}
use Rattle.graph.specs.Lent.{SameSlices, Grown, MadeIn}
use Rattle.graph.specs.declared.build.TableMut.{TableMut}
use Rattle.memo.specs.Memo.{SameTable}
use Rattle.memo.specs.declared.build.Operations.{Operations}
use Rattle.rows.specs.Naming.{other_part, Named, Unnamed, NamedOf, SetsIn, NamedIn, NamedAfterIn}
use Rattle.rows.specs.declared.naming.Sets.{Sets}
use Rattle.text.specs.Function.{row_in, rows_in}
use Rattle.text.proofs.NextLine.{Took}
use Rattle.text.proofs.Ends.{is_end-End, is_end-others}
use Rattle.text.proofs.Reading.{rows_to_end, rows_and_more}

-- What some rows name, and what those after them do; so what does not fit for the first does not fit for all.
named_append : (n : ℕ) (t : Kind) (seen xs ys : List Row) → named_after n t seen (xs ++ ys) ≡ named_after n t seen xs ++ named_after n t (seen ++ xs) ys
unfolding named_after
named_append n t seen [] ys = ap (λ s. named_after n t s ys) (sym (append-nil seen))
named_append n t seen (r ∷ xs) ys =
    let own = named_by n t (seen ++ (r ∷ [])) r (part t r.out) in
    ap (λ u. own ++ u)
    (named_append n t (seen ++ (r ∷ [])) xs ys ∙
    ap (λ s. named_after n t (seen ++ (r ∷ [])) xs ++ named_after n t s ys) (append_assoc seen (r ∷ []) xs)) ∙
    sym (append_assoc own (named_after n t (seen ++ (r ∷ [])) xs) (named_after n t (seen ++ (r ∷ xs)) ys))

first_lack : (n : ℕ) (t : Kind) (room : ℕ) (xs ys : List Row) → room < length (add_all [] (named_after n t [] xs)) → room < length (add_all [] (named_after n t [] (xs ++ ys)))
first_lack n t room xs ys h =
    omega (
      arith,
      h,
      more_no_shorter [] (named_after n t [] xs) (named_after n t xs ys),
      ap (λ u. length (add_all [] u)) (named_append n t [] xs ys),
    )

-- Before the first row the table is empty, and both sets are the constant 0.
none_named : {n : ℕ} {v l h : List ℕ} (t : Kind) → Sound n 0 v l h → Named n t [] v l h 0 0 0
unfolding functions named_after add_all
none_named {n} {v} {l} {h} t s = record { sound = s; lower = zero_is on; second = zero_is (other_part t); adds = refl }
  where
    zero_is : (w : Part) → Names v l h 0 0 n (set_of n t w []) 0
    zero_is w =
        record {
          number = constant-refers (table_of v l h) 0 0 0 (omega arith);
          means = fn_zero (table_of v l h) 0 n ∙ sym (set_begins n t w);
        }

-- The numbers of both sets are in use.
pub sets_in_use : {n : ℕ} {t : Kind} {rows : List Row} {v l h : List ℕ} {a b c : ℕ} → Named n t rows v l h a b c → RootedTwice n c v l h 0 a b
sets_in_use q = record { sound = q.sound; column = omega arith; first = q.lower.number; second = q.second.number }

-- The rows of a text, a line at a time.
row_none : (n : ℕ) (l : Line) → (l ≡ End → ⊥) → ((m x : ℕ) (o : Out) → l ≡ a_row m x o → ⊥) → row_in n l ≡ []
unfolding row_in
row_none n Empty h g = refl
row_none n (Columns k) h g = refl
row_none n Output h g = refl
row_none n (Typed t) h g = refl
row_none n (Count k) h g = refl
row_none n (a_row m x o) h g = absurd (g m x o refl)
row_none n End h g = refl
row_none n Bad h g = refl

module _ (n : ℕ) {text : List ℕ} {l : Line} {rest : List ℕ} (k : Took text l rest) where
  unrolled : rows_in n (lines text) ≡ rows_in n (k.here ∷ lines rest)
  unrolled = ap (rows_in n) k.unrolls

  rows_end : l ≡ End → rows_in n (lines text) ≡ []
  rows_end e = unrolled ∙ rows_to_end n k.here (lines rest) (ap is_end (sym k.means) ∙ is_end-End l e)

  rows_on : (l ≡ End → ⊥) → rows_in n (lines text) ≡ row_in n l ++ rows_in n (lines rest)
  rows_on e =
      unrolled ∙ rows_and_more n k.here (lines rest) (ap is_end (sym k.means) ∙ is_end-others l e) ∙
      ap (λ u. row_in n u ++ rows_in n (lines rest)) (sym k.means)

  row_same : (l ≡ End → ⊥) → ((m x : ℕ) (o : Out) → l ≡ a_row m x o → ⊥) → rows_in n (lines text) ≡ rows_in n (lines rest)
  row_same h g = rows_on h ∙ ap (λ r. r ++ rows_in n (lines rest)) (row_none n l h g)

  row_more : (m x : ℕ) (o : Out) → l ≡ a_row m x o → rows_in n (lines text) ≡ row_of n x o ∷ rows_in n (lines rest)
  unfolding row_in
  row_more m x o e = rows_on (λ d. let z : a_row m x o ≡ End = sym e ∙ d in absurd (cc)) ∙ ap (λ u. row_in n u ++ rows_in n (lines rest)) e

-- The same table after one operation, and after the next.
pub slices_then : {s s' s'' : TableMut} → SameSlices s s' → SameSlices s' s'' → SameSlices s s''
slices_then a b =
    record {
      columns = b.columns ∙ a.columns;
      level = b.level ∙ a.level;
      low = b.low ∙ a.low;
      high = b.high ∙ a.high;
      level-long = b.level-long ∙ a.level-long;
      low-long = b.low-long ∙ a.low-long;
      high-long = b.high-long ∙ a.high-long;
    }

pub grown_then : {s s' s'' : TableMut} → Grown s s' → Grown s' s'' → Grown s s''
grown_then a b =
    let s = slices_then (grown_slices a) (grown_slices b) in
    record {
      columns = s.columns;
      level = s.level;
      low = s.low;
      high = s.high;
      level-long = s.level-long;
      low-long = s.low-long;
      high-long = s.high-long;
      more = omega (arith, a.more, b.more);
      fits = λ f. b.fits (a.fits f);
    }

pub table_then : {o o' o'' : Operations} → SameTable o o' → SameTable o' o'' → SameTable o o''
table_then a b = record { name = b.name ∙ a.name; slices = grown_then a.slices b.slices }

-- What a row's naming promises of the table's columns it promises of the text's, which are as many.
pub row-named : (o o' : Operations) (k : Kind) (s : Sets) (x : ℕ) (out : Out) (r : Option Sets) {n : ℕ} → o.table.now.columns ≡ n
    → ((seen : List Row) → NamedIn o k seen s → NamedAfterIn o o' k (seen ++ (row_of o.table.now.columns x out ∷ [])) r)
    → (seen : List Row) → Named n k seen o.table.now.level.now o.table.now.low.now o.table.now.high.now s.on s.other o.table.now.count
    → NamedOf n k (seen ++ (row_of n x out ∷ [])) (length o.table.now.level.now) o'.table.now.level.now o'.table.now.low.now o'.table.now.high.now o'.table.now.count r
row-named o o' k s x out r e f =
    subst
    (λ (m : ℕ).
    (seen : List Row) → Named m k seen o.table.now.level.now o.table.now.low.now o.table.now.high.now s.on s.other o.table.now.count
    → NamedOf m k (seen ++ (row_of m x out ∷ [])) (length o.table.now.level.now) o'.table.now.level.now o'.table.now.low.now o'.table.now.high.now o'.table.now.count r)
    e f

-- So of the sets that U takes, and of U.
pub sets-named : (o : Operations) (k : Kind) (s : Sets) (rows : List Row) {n : ℕ} → o.table.now.columns ≡ n
    → Named n k rows o.table.now.level.now o.table.now.low.now o.table.now.high.now s.on s.other o.table.now.count → SetsIn o s
sets-named o k s rows e q =
    sets_in_use
    (subst (λ (m : ℕ). Named m k rows o.table.now.level.now o.table.now.low.now o.table.now.high.now s.on s.other o.table.now.count) (sym e) q)

pub upper-made : (o o' : Operations) (k : Kind) (s : Sets) (r : Option ℕ) {n : ℕ} → o.table.now.columns ≡ n
    → ((rows : List Row) → NamedIn o k rows s → MadeIn o.table.now o'.table.now 0 o.table.now.columns (upper_of o.table.now.columns k rows) r)
    → (rows : List Row) → Named n k rows o.table.now.level.now o.table.now.low.now o.table.now.high.now s.on s.other o.table.now.count
    → MadeOf n o.table.now.count o.table.now.level.now o.table.now.low.now o.table.now.high.now o'.table.now.level.now o'.table.now.low.now o'.table.now.high.now 0 n (upper_of n k rows) o'.table.now.count r
upper-made o o' k s r e f =
    subst
    (λ (m : ℕ).
    (rows : List Row) → Named m k rows o.table.now.level.now o.table.now.low.now o.table.now.high.now s.on s.other o.table.now.count
    → MadeOf m o.table.now.count o.table.now.level.now o.table.now.low.now o.table.now.high.now o'.table.now.level.now o'.table.now.low.now o'.table.now.high.now 0 m (upper_of m k rows) o'.table.now.count r)
    e f

-- What is known of a text between two lines: some rows are named, and with those of what is left they are all.
pub record SoFar (n : ℕ) (t : Kind) (text : List ℕ) (rest : List ℕ) (v l h : List ℕ) (a b c : ℕ) : Type 0 where
  pub seen : List Row
  pub named : Named n t seen v l h a b c
  pub whole : seen ++ rows_in n (lines rest) ≡ rows_in n (lines text)

pub starts : {n c : ℕ} {v l h : List ℕ} (t : Kind) (text : List ℕ) → (c ≡ 0) × Sound n 0 v l h → SoFar n t text text v l h 0 0 c
starts {n} {c} {v} {l} {h} t text s =
    record { seen = []; named = subst (Named n t [] v l h 0 0) (sym s.0) (none_named t s.1); whole = refl }

module _ {n : ℕ} {t : Kind} {text rest : List ℕ} {v l h : List ℕ} {a b c : ℕ} (q : SoFar n t text rest v l h a b c) where
  -- Nothing is left: all rows are named.
  all_named : rows_in n (lines rest) ≡ [] → Named n t (rows_in n (lines text)) v l h a b c
  all_named e = subst (λ u. Named n t u v l h a b c) (sym (append-nil q.seen) ∙ ap (λ u. q.seen ++ u) (sym e) ∙ q.whole) q.named

  pub named-over : (room : ℕ) → length v ≡ room → lines rest ≡ [] → NamedOf n t (rows_in n (lines text)) room v l h c (Some (record { on = a; other = b }))
  unfolding NamedOf rows_in
  named-over room w o = (w, all_named (ap (rows_in n) o))

  module _ {w : Line} {rest' : List ℕ} (k : Took rest w rest') where
    pub named_end : (room : ℕ) → length v ≡ room → w ≡ End → NamedOf n t (rows_in n (lines text)) room v l h c (Some (record { on = a; other = b }))
    unfolding NamedOf
    named_end room u e = (u, all_named (rows_end n k e))

    -- A line more without a row names nothing.
    pub named_same : (w ≡ End → ⊥) → ((m x : ℕ) (o : Out) → w ≡ a_row m x o → ⊥) → SoFar n t text rest' v l h a b c
    named_same d g = record { seen = q.seen; named = q.named; whole = ap (λ u. q.seen ++ u) (sym (row_same n k d g)) ∙ q.whole }

    -- A line more that is not the end: where its row does not fit, the rows of the text do not.
    module _ (e : w ≡ End → ⊥) (v' l' h' : List ℕ) (c' : ℕ) (r : Option Sets)
        (f : (seen : List Row) → Named n t seen v l h a b c → NamedOf n t (seen ++ row_in n w) (length v) v' l' h' c' r) where
      line-whole : (q.seen ++ row_in n w) ++ rows_in n (lines rest') ≡ rows_in n (lines text)
      line-whole =
          append_assoc q.seen (row_in n w) (rows_in n (lines rest')) ∙
          ap (λ u. q.seen ++ u) (sym (rows_on n k e)) ∙ q.whole

      pub line_full : (room : ℕ) → length v ≡ room → r ≡ None → NamedOf n t (rows_in n (lines text)) room v' l' h' c' None
      unfolding NamedOf
      line_full room p u =
          let g : (length v' ≡ length v) × Unnamed n t (q.seen ++ row_in n w) (length v) v' l' h' =
          subst (NamedOf n t (q.seen ++ row_in n w) (length v) v' l' h' c') u (f q.seen q.named) in
          let lacks : length v < length (add_all [] (named_after n t [] (rows_in n (lines text)))) =
          subst (λ s. length v < length (add_all [] (named_after n t [] s))) line-whole
          (first_lack n t (length v) (q.seen ++ row_in n w) (rows_in n (lines rest')) g.1.lacks) in
          (g.0 ∙ p, record { sized = g.1.sized; lacks = omega (arith, lacks, p) })

    -- A row more: it is named, or it does not fit, and then the rows of the text do not.
    module _ {m x : ℕ} {o : Out} (e : w ≡ a_row m x o) (v' l' h' : List ℕ) (c' : ℕ) (r : Option Sets)
        (f : (seen : List Row) → Named n t seen v l h a b c → NamedOf n t (seen ++ (row_of n x o ∷ [])) (length v) v' l' h' c' r) where
      next-whole : (q.seen ++ (row_of n x o ∷ [])) ++ rows_in n (lines rest') ≡ rows_in n (lines text)
      next-whole =
          append_assoc q.seen (row_of n x o ∷ []) (rows_in n (lines rest')) ∙
          ap (λ u. q.seen ++ u) (sym (row_more n k m x o e)) ∙ q.whole

      pub named-next : {s : Sets} → r ≡ Some s → SoFar n t text rest' v' l' h' s.on s.other c'
      unfolding NamedOf
      named-next {s} u =
          let g : (length v' ≡ length v) × Named n t (q.seen ++ (row_of n x o ∷ [])) v' l' h' s.on s.other c' =
          subst (NamedOf n t (q.seen ++ (row_of n x o ∷ [])) (length v) v' l' h' c') u (f q.seen q.named) in
          record { seen = q.seen ++ (row_of n x o ∷ []); named = g.1; whole = next-whole }

      pub named_full : (room : ℕ) → length v ≡ room → r ≡ None → NamedOf n t (rows_in n (lines text)) room v' l' h' c' None
      unfolding row_in
      named_full =
          line_full (λ d. let z : a_row m x o ≡ End = sym e ∙ d in absurd (cc)) v' l' h' c' r
          (λ seen p. subst⁻¹ (λ u. NamedOf n t (seen ++ row_in n u) (length v) v' l' h' c' r) e (f seen p))
