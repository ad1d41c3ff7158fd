-- What each test of the verdict says by points. A cube within U covers no off point, a cube not within U covers one; a list
-- that L is within leaves no on point bare, any other leaves one; so each test decides its condition of the demand.
use mathlib.Core.Path.{◌≡◌, refl, sym, ap, ◌∙◌}
use mathlib.Core.Bool.{true, false, not}
use mathlib.Core.List.{List, []}
use mathlib.Core.Option.{Option, some, none}
use Prim.Native.Nat.{ℕ, ◌<◌}
use lib.ListN.{length}
use Rattle.rule.specs.Func.{Fn, less, within}
use Rattle.rule.specs.Point.{Pt, at, smallest}
use Rattle.rule.specs.Cube.{Cube, covers, covers_any, cube_fn, covered, has_literal, without_literal, cube_at, without}
use Rattle.rule.specs.Verdict.{first, found, is_found, covers_off, off_point, can_go, goes, spare}
use Rattle.rule.specs.Demand.{On, Off, EveryOn, NoOff, Needed, LiteralNeeded, EveryLiteralNeeded, OffFault, MissingFault, LiteralFault, CubeFault}
use Rattle.rule.proofs.Bools.{clash, and_left, and_right, and_intro, and_false_right, not_is_true, not_is_false, must_be_true, must_be_false}
use Rattle.rule.proofs.Func.{in_less, less_in, less-out, within_false, within-at, at-within, not_within}
use Rattle.rule.proofs.Cubes.{at-cube_fn, at-covered}
use Rattle.rule.proofs.Search.{FirstAt, LeastAt, found_some, not_found, first_some, first-none, is-first, no_first, smallest-none, smallest-some, is-smallest, no_smallest}

module _ (m : ℕ) (L U : Fn m) (cs : List Cube) where
  -- What a cube does with the off points.
  within_clear : (c : Cube) → within m (cube_fn m c) U ≡ true → (p : Pt) → Off m L U cs p → covers m c p ≡ false
  within_clear c e p o = sym (at-cube_fn m c p) ∙ within_false m (cube_fn m c) U p e o.upper

  clear_within : (c : Cube) → ((p : Pt) → Off m L U cs p → covers m c p ≡ false) → within m (cube_fn m c) U ≡ true
  clear_within c h =
      at-within m (cube_fn m c) U
      (λ p w t. must_be_true (at m U p) (λ u. clash (sym (at-cube_fn m c p) ∙ t) (h p (record { whole = w; upper = u }))))

  in_off : (c : Cube) (p : Pt) → length p ≡ m → at m (less m (cube_fn m c) U) p ≡ true → Off m L U cs p
  in_off c p w e = record { whole = w; upper = less-out m (cube_fn m c) U p e }

  in_covers : (c : Cube) (p : Pt) → at m (less m (cube_fn m c) U) p ≡ true → covers m c p ≡ true
  in_covers c p e = sym (at-cube_fn m c p) ∙ less_in m (cube_fn m c) U p e

  covers-off_in : (c : Cube) (p : Pt) → Off m L U cs p → covers m c p ≡ true → at m (less m (cube_fn m c) U) p ≡ true
  covers-off_in c p o e = in_less m (cube_fn m c) U p (at-cube_fn m c p ∙ e) o.upper

  not_within_touches : (c : Cube) → within m (cube_fn m c) U ≡ false → (p : Pt) × Off m L U cs p × (covers m c p ≡ true)
  not_within_touches c e =
      let w = not_within m (cube_fn m c) U e in
      (w.point, in_off c w.point w.whole w.value, in_covers c w.point w.value)

  touches_not_within : (c : Cube) → (p : Pt) × Off m L U cs p × (covers m c p ≡ true) → within m (cube_fn m c) U ≡ false
  touches_not_within c t = must_be_false (within m (cube_fn m c) U) (λ e. clash t.2 (within_clear c e t.0 t.1))

  -- What a list does with the on points.
  within_full : (ds : List Cube) → within m L (covered m ds) ≡ true → (p : Pt) → On m L U cs p → covers_any m ds p ≡ true
  within_full ds e p o = sym (at-covered m ds p) ∙ within-at m L (covered m ds) p e o.lower

  full_within : (ds : List Cube) → ((p : Pt) → On m L U cs p → covers_any m ds p ≡ true) → within m L (covered m ds) ≡ true
  full_within ds h = at-within m L (covered m ds) (λ p w t. at-covered m ds p ∙ h p (record { whole = w; lower = t }))

  in_on : (ds : List Cube) (p : Pt) → length p ≡ m → at m (less m L (covered m ds)) p ≡ true → On m L U cs p
  in_on ds p w e = record { whole = w; lower = less_in m L (covered m ds) p e }

  in_bare : (ds : List Cube) (p : Pt) → at m (less m L (covered m ds)) p ≡ true → covers_any m ds p ≡ false
  in_bare ds p e = sym (at-covered m ds p) ∙ less-out m L (covered m ds) p e

  bare_on_in : (ds : List Cube) (p : Pt) → On m L U cs p → covers_any m ds p ≡ false → at m (less m L (covered m ds)) p ≡ true
  bare_on_in ds p o e = in_less m L (covered m ds) p o.lower (at-covered m ds p ∙ e)

  not_within_bare : (ds : List Cube) → within m L (covered m ds) ≡ false → (p : Pt) × On m L U cs p × (covers_any m ds p ≡ false)
  not_within_bare ds e =
      let w = not_within m L (covered m ds) e in
      (w.point, in_on ds w.point w.whole w.value, in_bare ds w.point w.value)

  bare_not_within : (ds : List Cube) → (p : Pt) × On m L U cs p × (covers_any m ds p ≡ false) → within m L (covered m ds) ≡ false
  bare_not_within ds t = must_be_false (within m L (covered m ds)) (λ e. clash (within_full ds e t.0 t.1) t.2)

  -- (a) Whether a cube covers an off point, and the smallest that it covers.
  pub no_off : (i : ℕ) → covers_off m L U cs i ≡ false → NoOff m L U cs i
  unfolding covers_off
  no_off i e = within_clear (cube_at cs i) (not_is_false (within m (cube_fn m (cube_at cs i)) U) e)

  pub no_off_test : (i : ℕ) → NoOff m L U cs i → covers_off m L U cs i ≡ false
  unfolding covers_off
  no_off_test i h = ap not (clear_within (cube_at cs i) h)

  pub off_least : (i : ℕ) → covers_off m L U cs i ≡ true → LeastAt m (less m (cube_fn m (cube_at cs i)) U) (off_point m L U cs i)
  unfolding covers_off off_point found
  off_least i e = go (smallest m over) refl
    where
      over : Fn m
      over = less m (cube_fn m (cube_at cs i)) U

      t : (p : Pt) × Off m L U cs p × (covers m (cube_at cs i) p ≡ true)
      t = not_within_touches (cube_at cs i) (not_is_true (within m (cube_fn m (cube_at cs i)) U) e)

      go : (o : Option Pt) → smallest m over ≡ o → LeastAt m over (found o [])
      go (some p) s = smallest-some m over s
      go none s = clash (covers-off_in (cube_at cs i) t.0 t.1 t.2) (smallest-none m over s t.0)

  pub off-fault : {i : ℕ} → FirstAt (covers_off m L U cs) (length cs) i → OffFault m L U cs i (off_point m L U cs i)
  off-fault {i} h =
      let c = cube_at cs i in
      let w = off_least i h.passes in
      record {
        place = h.place;
        is_off = in_off c (off_point m L U cs i) w.whole w.value;
        is_covered = in_covers c (off_point m L U cs i) w.value;
        smallest = λ q o e. w.least q o.whole (covers-off_in c q o e);
        earlier = λ j l. no_off j (h.before j l);
      }

  pub off-first : {i : ℕ} {p : Pt} → OffFault m L U cs i p → FirstAt (covers_off m L U cs) (length cs) i
  unfolding covers_off
  off-first {i} {p} h =
      record {
        place = h.place;
        passes = ap not (touches_not_within (cube_at cs i) (p, h.is_off, h.is_covered));
        before = λ j l. no_off_test j (h.earlier j l);
      }

  pub off-point : {i : ℕ} {p : Pt} → OffFault m L U cs i p → off_point m L U cs i ≡ p
  unfolding off_point found
  off-point {i} {p} h = ap (λ o. found o []) (is-smallest least)
    where
      least : LeastAt m (less m (cube_fn m (cube_at cs i)) U) p
      least =
          record {
            whole = h.is_off.whole;
            value = covers-off_in (cube_at cs i) p h.is_off h.is_covered;
            least = λ q w e. h.smallest q (in_off (cube_at cs i) q w e) (in_covers (cube_at cs i) q e);
          }

  -- (b) The smallest on point that is bare.
  pub every_on : smallest m (less m L (covered m cs)) ≡ none → EveryOn m L U cs
  every_on e p o = must_be_true (covers_any m cs p) (λ n. clash (bare_on_in cs p o n) (smallest-none m (less m L (covered m cs)) e p))

  pub every_on-none : EveryOn m L U cs → smallest m (less m L (covered m cs)) ≡ none
  every_on-none h =
      no_smallest m (less m L (covered m cs))
      (λ q w. must_be_false (at m (less m L (covered m cs)) q) (λ e. clash (h q (in_on cs q w e)) (in_bare cs q e)))

  pub missing-fault : {p : Pt} → ((i : ℕ) → i < length cs → NoOff m L U cs i) → smallest m (less m L (covered m cs)) ≡ some p → MissingFault m L U cs p
  missing-fault {p} a e =
      let w = smallest-some m (less m L (covered m cs)) e in
      record {
        no_off = a;
        is_on = in_on cs p w.whole w.value;
        is_bare = in_bare cs p w.value;
        smallest = λ q o n. w.least q o.whole (bare_on_in cs q o n);
      }

  pub missing-smallest : {p : Pt} → MissingFault m L U cs p → smallest m (less m L (covered m cs)) ≡ some p
  missing-smallest {p} h = is-smallest least
    where
      least : LeastAt m (less m L (covered m cs)) p
      least =
          record {
            whole = h.is_on.whole;
            value = bare_on_in cs p h.is_on h.is_bare;
            least = λ q w e. h.smallest q (in_on cs q w e) (in_bare cs q e);
          }

  -- (c) Whether the literal of a cube in a column can go, and whether some literal of a cube can.
  literal_needed : (i : ℕ) (k : ℕ) → can_go m L U cs i k ≡ false → has_literal (cube_at cs i) k ≡ true → LiteralNeeded m L U cs i k
  unfolding can_go
  literal_needed i k e l =
      let c = without_literal (cube_at cs i) k in
      not_within_touches c (and_false_right (has_literal (cube_at cs i) k) (within m (cube_fn m c) U) l e)

  needed_test : (i : ℕ) (k : ℕ) → (has_literal (cube_at cs i) k ≡ true → LiteralNeeded m L U cs i k) → can_go m L U cs i k ≡ false
  unfolding can_go
  needed_test i k h =
      let c = without_literal (cube_at cs i) k in
      must_be_false (can_go m L U cs i k)
      (λ e. clash
      (and_right (has_literal (cube_at cs i) k) (within m (cube_fn m c) U) e)
      (touches_not_within c (h (and_left (has_literal (cube_at cs i) k) (within m (cube_fn m c) U) e))))

  pub every_literal : (i : ℕ) → goes m L U cs i ≡ false → EveryLiteralNeeded m L U cs i
  unfolding goes
  every_literal i e k l =
      literal_needed i k (first-none (can_go m L U cs i) m (not_found (first (can_go m L U cs i) m) e) k l)

  pub every_literal_test : (i : ℕ) → EveryLiteralNeeded m L U cs i → goes m L U cs i ≡ false
  unfolding goes is_found
  every_literal_test i h = ap is_found (no_first (can_go m L U cs i) m (λ k l. needed_test i k (h k l)))

  -- The leftmost column of a cube whose literal can go.
  leftmost-column : {i : ℕ} {k : ℕ} → LiteralFault m L U cs i k → first (can_go m L U cs i) m ≡ some k
  unfolding can_go
  leftmost-column {i} {k} h = is-first column
    where
      column : FirstAt (can_go m L U cs i) m k
      column =
          record {
            place = h.column;
            passes =
                and_intro (has_literal (cube_at cs i) k) (within m (cube_fn m (without_literal (cube_at cs i) k)) U) h.is_literal
                (clear_within (without_literal (cube_at cs i) k) h.can_go);
            before = λ l b. needed_test i l (h.leftmost l b);
          }

  pub literal-fault : {i : ℕ} → ((j : ℕ) → j < length cs → NoOff m L U cs j) → EveryOn m L U cs → FirstAt (goes m L U cs) (length cs) i → LiteralFault m L U cs i (found (first (can_go m L U cs i) m) 0)
  unfolding goes can_go
  literal-fault {i} a b h =
      let test = can_go m L U cs i in
      let k = found (first test m) 0 in
      let w = first_some test m (found_some (first test m) 0 h.passes) in
      let c = without_literal (cube_at cs i) k in
      record {
        no_off = a;
        every_on = b;
        place = h.place;
        column = w.place;
        is_literal = and_left (has_literal (cube_at cs i) k) (within m (cube_fn m c) U) w.passes;
        can_go = within_clear c (and_right (has_literal (cube_at cs i) k) (within m (cube_fn m c) U) w.passes);
        leftmost = λ l before. literal_needed i l (w.before l before);
        earlier = λ j before. every_literal j (h.before j before);
      }

  pub literal-first : {i : ℕ} {k : ℕ} → LiteralFault m L U cs i k → FirstAt (goes m L U cs) (length cs) i
  unfolding goes is_found
  literal-first h =
      record {
        place = h.place;
        passes = ap is_found (leftmost-column h);
        before = λ j l. every_literal_test j (h.earlier j l);
      }

  pub literal-column : {i : ℕ} {k : ℕ} → LiteralFault m L U cs i k → found (first (can_go m L U cs i) m) 0 ≡ k
  unfolding found
  literal-column h = ap (λ o. found o 0) (leftmost-column h)

  -- (d) Whether a list without a cube leaves no on point bare.
  pub needed : (i : ℕ) → spare m L U cs i ≡ false → Needed m L U cs i
  unfolding spare
  needed i e = not_within_bare (without cs i) e

  pub needed_not_spare : (i : ℕ) → Needed m L U cs i → spare m L U cs i ≡ false
  unfolding spare
  needed_not_spare i h = bare_not_within (without cs i) h

  pub cube-fault : {i : ℕ} → ((j : ℕ) → j < length cs → NoOff m L U cs j) → EveryOn m L U cs → ((j : ℕ) → j < length cs → EveryLiteralNeeded m L U cs j) → FirstAt (spare m L U cs) (length cs) i → CubeFault m L U cs i
  unfolding spare
  cube-fault {i} a b c h =
      record {
        no_off = a;
        every_on = b;
        no_literal = c;
        place = h.place;
        spare = within_full (without cs i) h.passes;
        earlier = λ j l. needed j (h.before j l);
      }

  pub cube-first : {i : ℕ} → CubeFault m L U cs i → FirstAt (spare m L U cs) (length cs) i
  unfolding spare
  cube-first {i} h =
      record {
        place = h.place;
        passes = full_within (without cs i) h.spare;
        before = λ j l. needed_not_spare j (h.earlier j l);
      }
