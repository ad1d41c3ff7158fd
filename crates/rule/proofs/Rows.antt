-- The meaning of rows, by points: what is on, don't care and off in each type, that L lies within U exactly if no point is
-- both on and off, and what one more row adds. A set is the union of its rows' cubes, so it is 1 where one of them covers;
-- which rows those are, the types' table of output signs says.
use mathlib.Core.Path.{◌≡◌, refl, sym, ap, ◌∙◌}
use mathlib.Core.Bool.{Bool, true, false, cond, not, ◌||◌, false≢true}
use mathlib.Core.List.{List, [], ◌∷◌, ◌++◌, Memᴰ}
use mathlib.Core.Logic.{◌⊎◌, inl, inr, ⊎_elim, ◌↔◌}
use Prim.Native.Nat.{ℕ}
use lib.ListN.{length}
use Rattle.rule.specs.Func.{Fn, constant, both, either, always, within}
use Rattle.rule.specs.Point.{Pt, at}
use Rattle.rule.specs.Cube.{Cube, covers, covers_any, cube_fn, covered}
use Rattle.rule.specs.Rows.{Kind, f, fd, fr, Out, out0, out1, out_dash, out_tilde, Row, Part, on, dont_care, off, none, part, same_part, keep_if, cubes_of, set_of, lower_of, upper_of, contradicts}
use Rattle.rule.specs.Three.{value_of, value_at}
use Rattle.rule.specs.declared.three.Value.TheVariants.{Zero, One, Star}
use Rattle.rule.proofs.Bools.{or_true, or_left, or_right, clash, must_be_true, not_is_true, not_is_false, not_twice}
use Rattle.rule.proofs.Func.{at_constant, at-either, at_less, less_in, less-out, within-at, not_within}
use Rattle.rule.proofs.Operations.{constant-always, either-none, both-none, within_itself, within-either, within-apart}
use Rattle.rule.proofs.Cubes.{at-covered, covered_append, covered_one}

-- A set is 1 at the points that some cube of its rows covers.
pub at_set : (m : ℕ) (t : Kind) (w : Part) (rows : List Row) (p : Pt) → at m (set_of m t w rows) p ≡ covers_any m (cubes_of t w rows) p
unfolding set_of
at_set m t w rows p = at-covered m (cubes_of t w rows) p

-- Some row with an output sign covers a point.
pub record SomeRow (m : ℕ) (o : Out) (rows : List Row) (p : Pt) : Type 0 where
  pub row : Row
  pub among : Memᴰ row rows
  pub sign : row.out ≡ o
  pub covering : covers m row.cube p ≡ true

later : (m : ℕ) (o : Out) (r : Row) (rows : List Row) (p : Pt) → SomeRow m o rows p → SomeRow m o (r ∷ rows) p
later m o r rows p s = record { row = s.row; among = Memᴰ.tail s.among; sign = s.sign; covering = s.covering }

-- The cubes of a part cover what the cube of any row of the part does.
module _ (m : ℕ) (p : Pt) where
  kept-covers : (b : Bool) (c : Cube) (cs : List Cube) → b ≡ true → covers m c p ≡ true → covers_any m (keep_if b c cs) p ≡ true
  unfolding covers_any keep_if
  kept-covers true c cs e h = or_left (covers m c p) (covers_any m cs p) h
  kept-covers false c cs e h = clash e refl

  others_cover : (b : Bool) (c : Cube) (cs : List Cube) → covers_any m cs p ≡ true → covers_any m (keep_if b c cs) p ≡ true
  unfolding covers_any keep_if
  others_cover true c cs h = or_right (covers m c p) (covers_any m cs p) h
  others_cover false c cs h = h

  row-covers : (t : Kind) (w : Part) (r : Row) (rows : List Row) → Memᴰ r rows → same_part (part t r.out) w ≡ true → covers m r.cube p ≡ true → covers_any m (cubes_of t w rows) p ≡ true
  unfolding cubes_of
  row-covers t w r [] k s h = elim k [ ]
  row-covers t w r (x ∷ rows) (Memᴰ.head e) s h =
      kept-covers (same_part (part t x.out) w) x.cube (cubes_of t w rows) (rw e at s) (rw e at h)
  row-covers t w r (x ∷ rows) (Memᴰ.tail k) s h =
      others_cover (same_part (part t x.out) w) x.cube (cubes_of t w rows) (row-covers t w r rows k s h)

-- Where rows with one output sign add to a part and no others do, its set is 1 exactly at the points that some row with that
-- sign covers.
module _ (m : ℕ) (t : Kind) (w : Part) (o : Out) (adds : same_part (part t o) w ≡ true)
    (only : (x : Out) → same_part (part t x) w ≡ true → x ≡ o) (p : Pt) where
  some-row : (rows : List Row) → covers_any m (cubes_of t w rows) p ≡ true → SomeRow m o rows p
  unfolding cubes_of covers_any keep_if
  some-row [] e = clash e refl
  some-row (r ∷ rows) e = go (same_part (part t r.out) w) refl e (some-row rows)
    where
      go : (b : Bool) → same_part (part t r.out) w ≡ b → covers_any m (keep_if b r.cube (cubes_of t w rows)) p ≡ true →
          (covers_any m (cubes_of t w rows) p ≡ true → SomeRow m o rows p) → SomeRow m o (r ∷ rows) p
      go true s e ih =
          ⊎_elim
          (λ h. record { row = r; among = Memᴰ.head refl; sign = only r.out s; covering = h })
          (λ h. later m o r rows p (ih h))
          (or_true (covers m r.cube p) (covers_any m (cubes_of t w rows) p) e)
      go false s e ih = later m o r rows p (ih e)

  pub set_exactly : (rows : List Row) → (at m (set_of m t w rows) p ≡ true) ↔ SomeRow m o rows p
  set_exactly rows = (
    λ e. some-row rows (sym (at_set m t w rows p) ∙ e),
    λ s. at_set m t w rows p ∙ row-covers m p t w s.row rows s.among (ap (λ x. same_part (part t x) w) s.sign ∙ adds) s.covering,
  )

-- The output signs of the rows that add to a part: 1 to the on set, in fd - to the don't-care set, in fr 0 to the off set.
ones_add : (t : Kind) → same_part (part t out1) on ≡ true
unfolding part same_part
ones_add f = refl
ones_add fd = refl
ones_add fr = refl

only_ones : (t : Kind) (x : Out) → same_part (part t x) on ≡ true → x ≡ out1
unfolding part same_part
only_ones f out0 e = absurd (false≢true e)
only_ones f out1 e = refl
only_ones f out_dash e = absurd (false≢true e)
only_ones f out_tilde e = absurd (false≢true e)
only_ones fd out0 e = absurd (false≢true e)
only_ones fd out1 e = refl
only_ones fd out_dash e = absurd (false≢true e)
only_ones fd out_tilde e = absurd (false≢true e)
only_ones fr out0 e = absurd (false≢true e)
only_ones fr out1 e = refl
only_ones fr out_dash e = absurd (false≢true e)
only_ones fr out_tilde e = absurd (false≢true e)

only_dashes : (x : Out) → same_part (part fd x) dont_care ≡ true → x ≡ out_dash
unfolding part same_part
only_dashes out0 e = absurd (false≢true e)
only_dashes out1 e = absurd (false≢true e)
only_dashes out_dash e = refl
only_dashes out_tilde e = absurd (false≢true e)

only_zeros : (x : Out) → same_part (part fr x) off ≡ true → x ≡ out0
unfolding part same_part
only_zeros out0 e = refl
only_zeros out1 e = absurd (false≢true e)
only_zeros out_dash e = absurd (false≢true e)
only_zeros out_tilde e = absurd (false≢true e)

-- A point is on exactly if some row with 1 covers it, in every type.
pub on_exactly : (m : ℕ) (t : Kind) (rows : List Row) (p : Pt) → (at m (lower_of m t rows) p ≡ true) ↔ SomeRow m out1 rows p
unfolding lower_of
on_exactly m t rows p = set_exactly m t on out1 (ones_add t) (only_ones t) p rows

-- In fd the don't-care set is 1 exactly at the points that some row with - covers, on points included; U is 1 exactly at the
-- points that some row with 1 or with - covers.
pub fd-dashes_exactly : (m : ℕ) (rows : List Row) (p : Pt) → (at m (set_of m fd dont_care rows) p ≡ true) ↔ SomeRow m out_dash rows p
unfolding part same_part
fd-dashes_exactly m rows p = set_exactly m fd dont_care out_dash refl only_dashes p rows

pub fd-upper_exactly : (m : ℕ) (rows : List Row) (p : Pt) → (at m (upper_of m fd rows) p ≡ true) ↔ (SomeRow m out1 rows p ⊎ SomeRow m out_dash rows p)
unfolding upper_of lower_of
fd-upper_exactly m rows p = (
  λ e. ⊎_elim (λ a. inl (ones.0 a)) (λ b. inr (dashes.0 b)) (or_true (at m L p) (at m D p) (sym (at-either m L D p) ∙ e)),
  λ s. at-either m L D p ∙ ⊎_elim (λ a. or_left (at m L p) (at m D p) (ones.1 a)) (λ b. or_right (at m L p) (at m D p) (dashes.1 b)) s,
)
  where
    L : Fn m
    L = set_of m fd on rows

    D : Fn m
    D = set_of m fd dont_care rows

    ones : (at m (set_of m fd on rows) p ≡ true) ↔ SomeRow m out1 rows p
    ones = on_exactly m fd rows p

    dashes : (at m (set_of m fd dont_care rows) p ≡ true) ↔ SomeRow m out_dash rows p
    dashes = fd-dashes_exactly m rows p

-- In fr the off set is 1 exactly at the points that some row with 0 covers; U is 1 exactly at those that none covers.
pub fr_zeros_exactly : (m : ℕ) (rows : List Row) (p : Pt) → (at m (set_of m fr off rows) p ≡ true) ↔ SomeRow m out0 rows p
unfolding part same_part
fr_zeros_exactly m rows p = set_exactly m fr off out0 refl only_zeros p rows

pub fr-upper : (m : ℕ) (rows : List Row) (p : Pt) → at m (upper_of m fr rows) p ≡ not (at m (set_of m fr off rows) p)
unfolding upper_of
fr-upper m rows p = rw (at_less, at_constant) refl

pub fr-off_exactly : (m : ℕ) (rows : List Row) (p : Pt) → (at m (upper_of m fr rows) p ≡ false) ↔ SomeRow m out0 rows p
fr-off_exactly m rows p = (
  λ e. (fr_zeros_exactly m rows p).0 (not_is_false (at m (set_of m fr off rows) p) (sym (fr-upper m rows p) ∙ e)),
  λ s. fr-upper m rows p ∙ ap not ((fr_zeros_exactly m rows p).1 s),
)

pub fr-upper_exactly : (m : ℕ) (rows : List Row) (p : Pt) → (at m (upper_of m fr rows) p ≡ true) ↔ ¬ SomeRow m out0 rows p
fr-upper_exactly m rows p = (
  λ e s. clash e ((fr-off_exactly m rows p).1 s),
  λ n. must_be_true (at m (upper_of m fr rows) p) (λ e. n ((fr-off_exactly m rows p).0 e)),
)

-- The value at a point, type by type. In f rows with 1 are on, the rest is off.
value_f : (a : Bool) → value_of a a ≡ cond a One Zero
unfolding value_of
value_f true = refl
value_f false = refl

pub f_value : (m : ℕ) (rows : List Row) (p : Pt) → value_at m (lower_of m f rows) (upper_of m f rows) p ≡ cond (covers_any m (cubes_of f on rows) p) One Zero
unfolding value_at lower_of upper_of
f_value m rows p = rw at_set (value_f (covers_any m (cubes_of f on rows) p))

-- In fd rows with 1 are on, rows with - are don't care, a point in both is on, the rest is off.
value_fd : (a b : Bool) → value_of a (a || b) ≡ cond a One (cond b Star Zero)
unfolding value_of
value_fd true b = refl
value_fd false true = refl
value_fd false false = refl

pub fd_value : (m : ℕ) (rows : List Row) (p : Pt) →
    value_at m (lower_of m fd rows) (upper_of m fd rows) p ≡
    cond (covers_any m (cubes_of fd on rows) p) One (cond (covers_any m (cubes_of fd dont_care rows) p) Star Zero)
unfolding value_at lower_of upper_of
fd_value m rows p =
    rw (at-either, at_set m fd on, at_set m fd dont_care)
    (value_fd (covers_any m (cubes_of fd on rows) p) (covers_any m (cubes_of fd dont_care rows) p))

pub fd-both-on : (m : ℕ) (rows : List Row) (p : Pt) → SomeRow m out1 rows p → SomeRow m out_dash rows p → value_at m (lower_of m fd rows) (upper_of m fd rows) p ≡ One
unfolding value_at value_of
fd-both-on m rows p a b = ap (λ x. value_of x (at m (upper_of m fd rows) p)) ((on_exactly m fd rows p).1 a)

-- In fr rows with 1 are on, rows with 0 are off, the rest is don't care; rows that put a point in both are refused.
value_fr : (a b : Bool) → value_of a (not b) ≡ cond a One (cond b Zero Star)
unfolding value_of
value_fr true b = refl
value_fr false true = refl
value_fr false false = refl

pub fr_value : (m : ℕ) (rows : List Row) (p : Pt) →
    value_at m (lower_of m fr rows) (upper_of m fr rows) p ≡
    cond (covers_any m (cubes_of fr on rows) p) One (cond (covers_any m (cubes_of fr off rows) p) Zero Star)
unfolding value_at lower_of
fr_value m rows p =
    rw (fr-upper, at_set m fr on, at_set m fr off) (value_fr (covers_any m (cubes_of fr on rows) p) (covers_any m (cubes_of fr off rows) p))

-- f and fd have no off rows, so no point is both on and off.
no_off-f : (o : Out) → same_part (part f o) off ≡ false
unfolding part same_part
no_off-f out0 = refl
no_off-f out1 = refl
no_off-f out_dash = refl
no_off-f out_tilde = refl

no_off-fd : (o : Out) → same_part (part fd o) off ≡ false
unfolding part same_part
no_off-fd out0 = refl
no_off-fd out1 = refl
no_off-fd out_dash = refl
no_off-fd out_tilde = refl

no_cubes : (t : Kind) (w : Part) → ((o : Out) → same_part (part t o) w ≡ false) → (rows : List Row) → cubes_of t w rows ≡ []
unfolding cubes_of keep_if
no_cubes t w h [] = refl
no_cubes t w h (r ∷ rows) = rw (h r.out) (no_cubes t w h rows)

never_contradicts : (m : ℕ) (t : Kind) → ((o : Out) → same_part (part t o) off ≡ false) → (rows : List Row) → contradicts m t rows ≡ false
unfolding contradicts set_of covered
never_contradicts m t h rows = rw (no_cubes t off h rows, both-none, constant-always) refl

pub f_never_contradicts : (m : ℕ) (rows : List Row) → contradicts m f rows ≡ false
f_never_contradicts m rows = never_contradicts m f no_off-f rows

pub fd_never_contradicts : (m : ℕ) (rows : List Row) → contradicts m fd rows ≡ false
fd_never_contradicts m rows = never_contradicts m fd no_off-fd rows

-- L lies within U: in f and fd always, in fr exactly if no point is both on and off.
pub f-within : (m : ℕ) (rows : List Row) → within m (lower_of m f rows) (upper_of m f rows) ≡ true
unfolding lower_of upper_of
f-within m rows = within_itself m (set_of m f on rows)

pub fd-within : (m : ℕ) (rows : List Row) → within m (lower_of m fd rows) (upper_of m fd rows) ≡ true
unfolding lower_of upper_of
fd-within m rows = within-either m (set_of m fd on rows) (set_of m fd dont_care rows)

pub fr-within : (m : ℕ) (rows : List Row) → within m (lower_of m fr rows) (upper_of m fr rows) ≡ not (contradicts m fr rows)
unfolding lower_of upper_of contradicts
fr-within m rows =
    within-apart m (set_of m fr on rows) (set_of m fr off rows) ∙
    sym (not_twice (always false m (both m (set_of m fr on rows) (set_of m fr off rows))))

-- So in every type it does exactly if no point is both on and off.
pub within_exactly : (m : ℕ) (t : Kind) (rows : List Row) → within m (lower_of m t rows) (upper_of m t rows) ≡ not (contradicts m t rows)
within_exactly m f rows = f-within m rows ∙ ap not (sym (f_never_contradicts m rows))
within_exactly m fd rows = fd-within m rows ∙ ap not (sym (fd_never_contradicts m rows))
within_exactly m fr rows = fr-within m rows

pub good-rows-within : (m : ℕ) (t : Kind) (rows : List Row) → contradicts m t rows ≡ false → within m (lower_of m t rows) (upper_of m t rows) ≡ true
good-rows-within m t rows e = within_exactly m t rows ∙ ap not e

pub within-good-rows : (m : ℕ) (t : Kind) (rows : List Row) → within m (lower_of m t rows) (upper_of m t rows) ≡ true → contradicts m t rows ≡ false
within-good-rows m t rows e = not_is_true (contradicts m t rows) (sym (within_exactly m t rows) ∙ e)

-- In fr a point is both on and off if some row with 1 and some row with 0 cover it.
pub record OnAndOff (m : ℕ) (rows : List Row) : Type 0 where
  pub point : Pt
  pub whole : length point ≡ m
  pub is_on : SomeRow m out1 rows point
  pub is_off : SomeRow m out0 rows point

pub fr-contradicts_exactly : (m : ℕ) (rows : List Row) → (contradicts m fr rows ≡ true) ↔ OnAndOff m rows
fr-contradicts_exactly m rows = (shown, λ s. must_be_true (contradicts m fr rows) (refuted s))
  where
    L : Fn m
    L = lower_of m fr rows

    U : Fn m
    U = upper_of m fr rows

    shown : contradicts m fr rows ≡ true → OnAndOff m rows
    shown e =
        let q = not_within m L U (within_exactly m fr rows ∙ ap not e) in
        record {
          point = q.point;
          whole = q.whole;
          is_on = (on_exactly m fr rows q.point).0 (less_in m L U q.point q.value);
          is_off = (fr-off_exactly m rows q.point).0 (less-out m L U q.point q.value);
        }

    refuted : OnAndOff m rows → contradicts m fr rows ≡ false → ⊥
    refuted s e =
        clash
        (within-at m L U s.point (good-rows-within m fr rows e) ((on_exactly m fr rows s.point).1 s.is_on))
        ((fr-off_exactly m rows s.point).1 s.is_off)

-- Rows one after the other: a set is the union of what both give.
keep_append : (b : Bool) (c : Cube) (xs ys : List Cube) → keep_if b c (xs ++ ys) ≡ keep_if b c xs ++ ys
unfolding keep_if
keep_append true c xs ys = refl
keep_append false c xs ys = refl

cubes_append : (t : Kind) (w : Part) (rows more : List Row) → cubes_of t w (rows ++ more) ≡ cubes_of t w rows ++ cubes_of t w more
unfolding cubes_of
cubes_append t w [] more = refl
cubes_append t w (r ∷ rows) more =
    rw (cubes_append t w rows more) (keep_append (same_part (part t r.out) w) r.cube (cubes_of t w rows) (cubes_of t w more))

pub set_append : (m : ℕ) (t : Kind) (w : Part) (rows more : List Row) → set_of m t w (rows ++ more) ≡ either m (set_of m t w rows) (set_of m t w more)
unfolding set_of
set_append m t w rows more = ap (covered m) (cubes_append t w rows more) ∙ covered_append m (cubes_of t w rows) (cubes_of t w more)

-- A part is the same as itself.
pub same-part : (w : Part) → same_part w w ≡ true
unfolding same_part
same-part on = refl
same-part dont_care = refl
same-part off = refl
same-part none = refl

-- Before the first row every set is 0.
pub set_begins : (m : ℕ) (t : Kind) (w : Part) → set_of m t w [] ≡ constant m false
unfolding set_of cubes_of covered
set_begins m t w = refl

-- A row that adds to the set brings its cube; any other leaves the set as it was.
pub set_grows : (m : ℕ) (t : Kind) (w : Part) (rows : List Row) (r : Row) → same_part (part t r.out) w ≡ true →
    set_of m t w (rows ++ (r ∷ [])) ≡ either m (set_of m t w rows) (cube_fn m r.cube)
unfolding set_of cubes_of keep_if
set_grows m t w rows r e = rw (set_append, e, covered_one) refl

pub set_stays : (m : ℕ) (t : Kind) (w : Part) (rows : List Row) (r : Row) → same_part (part t r.out) w ≡ false →
    set_of m t w (rows ++ (r ∷ [])) ≡ set_of m t w rows
unfolding set_of cubes_of keep_if covered
set_stays m t w rows r e = rw (set_append, e, either-none) refl
