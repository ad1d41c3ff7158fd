-- In the rule's list no row and no literal is too many. By induction on the columns: a row of list A has an on point
-- of P0 to itself, which list C cannot cover because P0 lies outside U1; the same point with a 1 in the first column
-- is off, so the row needs its 0 there. A row of list C has a point to itself that A or B left.
use mathlib.Core.Path.{◌≡◌, refl, sym, ap, ◌∙◌, subst⁻¹}
use mathlib.Core.Bool.{Bool, true, false}
use mathlib.Core.List.{List, [], ◌∷◌, ◌++◌}
use mathlib.Core.Logic.{⊎_elim}
use Prim.Native.Nat.{ℕ, zero, suc}
use lib.ListN.{length}
use Rattle.rule.specs.Func.{Fn, half, always, within}
use Rattle.rule.specs.Point.{Pt, lead, rest, at}
use Rattle.rule.specs.Cube.{Sign, sign0, sign1, dash, Cube, lead_sign, rest_signs, permits, covers, covers_any, dashes, is_literal, has_literal, without_literal}
use Rattle.rule.specs.Rule.{p0_of, p1_of, g0_of, g1_of, r0_of, r1_of, r0_or_r1, u0_and_u1, list_a, list_b, list_c, put, result, list_of}
use Rattle.rule.proofs.Func.{at_both, at-digit, less_in, less-out, not_always}
use Rattle.rule.proofs.Cubes.{at-covered}
use Rattle.rule.proofs.Steps.{by_step, list_step3, any_joined, p0_of-off, p1_of-off, c_for_left}
use Rattle.rule.proofs.Cover.{Covers, list-covers, no_step-left, covers_a, covers_b, c_in_0, c_in_1}
use Rattle.rule.proofs.Cover.{within_a, within_b, within_c}
use Rattle.rule.proofs.Picks.{Picks, picks_append, picks_put, pick_hits, no_pick, only_pick, only_left, FirstPick, SecondPick}
use Rattle.rule.proofs.Bools.{and_false, and_intro, or_false, clash, must_be_false}

-- An on point that a list leaves bare.
pub record Bare (m : ℕ) (L : Fn m) (cs : List Cube) : Type 0 where
  pub point : Pt
  pub whole : length point ≡ m
  pub on : at m L point ≡ true
  pub bare : covers_any m cs point ≡ false

-- An off point that a cube covers.
pub record Spoils (m : ℕ) (U : Fn m) (c : Cube) : Type 0 where
  pub point : Pt
  pub whole : length point ≡ m
  pub off : at m U point ≡ false
  pub hit : covers m c point ≡ true

-- Without any one row an on point is bare; without any one literal a row covers an off point.
pub record Irredundant (m : ℕ) (L : Fn m) (U : Fn m) (cs : List Cube) : Type 0 where
  pub row : (c : Cube) (left : List Cube) → Picks cs c left → Bare m L left
  pub literal : (c : Cube) (left : List Cube) → Picks cs c left → (k : ℕ) → has_literal c k ≡ true → Spoils m U (without_literal c k)

-- A point of a half, bare of that half's list and of list C, is bare of the three lists together.
lift_bare : (m : ℕ) (L : Fn (suc m)) (d : Bool) (q : Pt) (A : List Cube) (B : List Cube) (C : List Cube) →
    length q ≡ m → at m (half d L) q ≡ true → covers_any m (half d (A, B)) q ≡ false → covers_any m C q ≡ false →
    Bare (suc m) L (put sign0 A ++ put sign1 B ++ put dash C)
unfolding lead rest
lift_bare m L d q A B C w t a c =
    record {
      point = d ∷ q;
      whole = ap suc w;
      on = at-digit m L d q ∙ t;
      bare = any_joined m A B C (d ∷ q) ∙ or_false (covers_any m (half d (A, B)) q) (covers_any m C q) a c;
    }

-- An off point of a half that a cube covers is one of the whole, for the cube under a sign that permits the digit.
lift_spoils : (m : ℕ) (U : Fn (suc m)) (s : Sign) (d : Bool) (c : Cube) (q : Pt) →
    permits s d ≡ true → length q ≡ m → at m (half d U) q ≡ false → covers m c q ≡ true → Spoils (suc m) U (s ∷ c)
unfolding covers lead_sign rest_signs lead rest
lift_spoils m U s d c q e w n t =
    record {
      point = d ∷ q;
      whole = ap suc w;
      off = at-digit m U d q ∙ n;
      hit = and_intro (permits s d) (covers m c q) e t;
    }

-- The literals of a cube under a sign: the sign itself, where it is one, and those of the cube.
put-literal : (m : ℕ) (U : Fn (suc m)) (s : Sign) (c : Cube) → (is_literal s ≡ true → Spoils (suc m) U (dash ∷ c)) →
    ((k : ℕ) → has_literal c k ≡ true → Spoils (suc m) U (s ∷ without_literal c k)) →
    (k : ℕ) → has_literal (s ∷ c) k ≡ true → Spoils (suc m) U (without_literal (s ∷ c) k)
unfolding has_literal without_literal
put-literal m U s c own later zero e = own e
put-literal m U s c own later (suc k) e = later k e

module _ (m : ℕ) (list : Fn m → Fn m → List Cube) (ihC : (L : Fn m) (U : Fn m) → within m L U ≡ true → Covers m L U (list L U))
    (ih : (L : Fn m) (U : Fn m) → within m L U ≡ true → Irredundant m L U (list L U))
    (L : Fn (suc m)) (U : Fn (suc m)) (w : within (suc m) L U ≡ true) where
  irr_a : Irredundant m (p0_of m list L U) U.0 (list_a m list L U)
  unfolding list_a
  irr_a = ih (p0_of m list L U) U.0 (within_a m list ihC L U w)

  irr_b : Irredundant m (p1_of m list L U) U.1 (list_b m list L U)
  unfolding list_b
  irr_b = ih (p1_of m list L U) U.1 (within_b m list ihC L U w)

  irr_c : Irredundant m (r0_or_r1 m list L U) (u0_and_u1 m list L U) (list_c m list L U)
  unfolding list_c
  irr_c = ih (r0_or_r1 m list L U) (u0_and_u1 m list L U) (within_c m list ihC L U w)

  -- A point of P0 lies outside U1, so list C does not cover it; the same for P1 and U0.
  c_misses_p0_of : (q : Pt) → at m (p0_of m list L U) q ≡ true → covers_any m (list_c m list L U) q ≡ false
  c_misses_p0_of q t = must_be_false (covers_any m (list_c m list L U) q) (λ e. clash (c_in_1 m list ihC L U w q e) (p0_of-off m list L U q t))

  c_misses_p1_of : (q : Pt) → at m (p1_of m list L U) q ≡ true → covers_any m (list_c m list L U) q ≡ false
  c_misses_p1_of q t = must_be_false (covers_any m (list_c m list L U) q) (λ e. clash (c_in_0 m list ihC L U w q e) (p1_of-off m list L U q t))

  row_a : (others : List Cube) → Bare m (p0_of m list L U) others →
      Bare (suc m) L (put sign0 others ++ put sign1 (list_b m list L U) ++ put dash (list_c m list L U))
  unfolding half p0_of
  row_a others b = lift_bare m L false b.point others (list_b m list L U) (list_c m list L U) b.whole (less_in m L.0 U.1 b.point b.on) b.bare (c_misses_p0_of b.point b.on)

  row_b : (others : List Cube) → Bare m (p1_of m list L U) others →
      Bare (suc m) L (put sign0 (list_a m list L U) ++ put sign1 others ++ put dash (list_c m list L U))
  unfolding half p1_of
  row_b others b = lift_bare m L true b.point (list_a m list L U) others (list_c m list L U) b.whole (less_in m L.1 U.0 b.point b.on) b.bare (c_misses_p1_of b.point b.on)

  row_c : (others : List Cube) → Bare m (r0_or_r1 m list L U) others →
      Bare (suc m) L (put sign0 (list_a m list L U) ++ put sign1 (list_b m list L U) ++ put dash others)
  unfolding half r0_of r1_of g0_of g1_of
  row_c others b = ⊎_elim left_0 left_1 (c_for_left m list L U b.point b.on)
    where
      left_0 : at m (r0_of m list L U) b.point ≡ true → Bare (suc m) L (put sign0 (list_a m list L U) ++ put sign1 (list_b m list L U) ++ put dash others)
      left_0 t = lift_bare m L false b.point (list_a m list L U) (list_b m list L U) others b.whole (less_in m L.0 (g0_of m list L U) b.point t) (sym (at-covered m (list_a m list L U) b.point) ∙ less-out m L.0 (g0_of m list L U) b.point t) b.bare

      left_1 : at m (r1_of m list L U) b.point ≡ true → Bare (suc m) L (put sign0 (list_a m list L U) ++ put sign1 (list_b m list L U) ++ put dash others)
      left_1 t = lift_bare m L true b.point (list_a m list L U) (list_b m list L U) others b.whole (less_in m L.1 (g1_of m list L U) b.point t) (sym (at-covered m (list_b m list L U) b.point) ∙ less-out m L.1 (g1_of m list L U) b.point t) b.bare

  -- A row of list A covers its bare point; with a 1 in the first column that point is off. The same for list B and 0.
  first_a : (c : Cube) (left : List Cube) → Picks (list_a m list L U) c left → Spoils (suc m) U (dash ∷ c)
  unfolding half permits
  first_a c left k =
      let b = irr_a.row c left k in
      lift_spoils m U dash true c b.point refl b.whole (p0_of-off m list L U b.point b.on)
      (pick_hits m b.point k ((covers_a m list ihC L U w).on b.point b.on) b.bare)

  first_b : (c : Cube) (left : List Cube) → Picks (list_b m list L U) c left → Spoils (suc m) U (dash ∷ c)
  unfolding half permits
  first_b c left k =
      let b = irr_b.row c left k in
      lift_spoils m U dash false c b.point refl b.whole (p1_of-off m list L U b.point b.on)
      (pick_hits m b.point k ((covers_b m list ihC L U w).on b.point b.on) b.bare)

  later_a : (c : Cube) (left : List Cube) → Picks (list_a m list L U) c left → (k : ℕ) → has_literal c k ≡ true → Spoils (suc m) U (sign0 ∷ without_literal c k)
  unfolding half permits
  later_a c left k j e =
      let s = irr_a.literal c left k j e in
      lift_spoils m U sign0 false (without_literal c j) s.point refl s.whole s.off s.hit

  later_b : (c : Cube) (left : List Cube) → Picks (list_b m list L U) c left → (k : ℕ) → has_literal c k ≡ true → Spoils (suc m) U (sign1 ∷ without_literal c k)
  unfolding half permits
  later_b c left k j e =
      let s = irr_b.literal c left k j e in
      lift_spoils m U sign1 true (without_literal c j) s.point refl s.whole s.off s.hit

  later_c : (c : Cube) (left : List Cube) → Picks (list_c m list L U) c left → (k : ℕ) → has_literal c k ≡ true → Spoils (suc m) U (dash ∷ without_literal c k)
  unfolding half permits u0_and_u1
  later_c c left k j e =
      let s = irr_c.literal c left k j e in
      ⊎_elim
      (λ n. lift_spoils m U dash false (without_literal c j) s.point refl s.whole n s.hit)
      (λ n. lift_spoils m U dash true (without_literal c j) s.point refl s.whole n s.hit)
      (and_false (at m U.0 s.point) (at m U.1 s.point) (sym (at_both m U.0 U.1 s.point) ∙ s.off))

  -- A pick from the result is one from A, B or C.
  Claim : Cube → List Cube → Type 0
  Claim c left = Bare (suc m) L left × ((k : ℕ) → has_literal c k ≡ true → Spoils (suc m) U (without_literal c k))

  claim_a : (c : Cube) (left : List Cube) → FirstPick (put sign0 (list_a m list L U)) (put sign1 (list_b m list L U)) c left → Claim c (left ++ put dash (list_c m list L U))
  unfolding Claim is_literal
  claim_a c left f =
      let q = picks_put sign0 (list_a m list L U) c f.others f.pick in (
        subst⁻¹ (λ l. Bare (suc m) L (l ++ put dash (list_c m list L U))) (f.is ∙ ap (λ l. l ++ put sign1 (list_b m list L U)) q.rest-is)
            (row_a q.others (irr_a.row q.cube q.others q.pick)),
        subst⁻¹ (λ d. (k : ℕ) → has_literal d k ≡ true → Spoils (suc m) U (without_literal d k)) q.is
            (put-literal m U sign0 q.cube (λ e. first_a q.cube q.others q.pick) (later_a q.cube q.others q.pick)),
      )

  claim_b : (c : Cube) (left : List Cube) → SecondPick (put sign0 (list_a m list L U)) (put sign1 (list_b m list L U)) c left → Claim c (left ++ put dash (list_c m list L U))
  unfolding Claim is_literal
  claim_b c left f =
      let q = picks_put sign1 (list_b m list L U) c f.others f.pick in (
        subst⁻¹ (λ l. Bare (suc m) L (l ++ put dash (list_c m list L U))) (f.is ∙ ap (λ l. put sign0 (list_a m list L U) ++ l) q.rest-is)
            (row_b q.others (irr_b.row q.cube q.others q.pick)),
        subst⁻¹ (λ d. (k : ℕ) → has_literal d k ≡ true → Spoils (suc m) U (without_literal d k)) q.is
            (put-literal m U sign1 q.cube (λ e. first_b q.cube q.others q.pick) (later_b q.cube q.others q.pick)),
      )

  claim_c : (c : Cube) (left : List Cube) → SecondPick (put sign0 (list_a m list L U) ++ put sign1 (list_b m list L U)) (put dash (list_c m list L U)) c left → Claim c left
  unfolding Claim is_literal
  claim_c c left f =
      let q = picks_put dash (list_c m list L U) c f.others f.pick in (
        subst⁻¹ (Bare (suc m) L) (f.is ∙ ap (λ l. put sign0 (list_a m list L U) ++ put sign1 (list_b m list L U) ++ l) q.rest-is)
            (row_c q.others (irr_c.row q.cube q.others q.pick)),
        subst⁻¹ (λ d. (k : ℕ) → has_literal d k ≡ true → Spoils (suc m) U (without_literal d k)) q.is
            (put-literal m U dash q.cube (λ e. clash e refl) (later_c q.cube q.others q.pick)),
      )

  claim_ab : (c : Cube) (left : List Cube) → FirstPick (put sign0 (list_a m list L U) ++ put sign1 (list_b m list L U)) (put dash (list_c m list L U)) c left → Claim c left
  claim_ab c left f =
      subst⁻¹ (Claim c) f.is
      (⊎_elim (claim_a c f.others) (claim_b c f.others)
      (picks_append (put sign0 (list_a m list L U)) (put sign1 (list_b m list L U)) c f.others f.pick))

  claim : (c : Cube) (left : List Cube) → Picks (result m list L U) c left → Claim c left
  unfolding result
  claim c left k =
      ⊎_elim (claim_ab c left) (claim_c c left)
      (picks_append (put sign0 (list_a m list L U) ++ put sign1 (list_b m list L U)) (put dash (list_c m list L U)) c left k)

  pub irredundant_result : Irredundant (suc m) L U (result m list L U)
  unfolding Claim
  irredundant_result = record { row = λ c left k. (claim c left k).0; literal = λ c left k. (claim c left k).1 }

-- Step 1 gives no row. Step 2 gives one, needed since L is not 0, without literals.
irredundant_none : (m : ℕ) (L : Fn m) (U : Fn m) → Irredundant m L U []
irredundant_none m L U = record { row = λ c left k. absurd (no_pick k); literal = λ c left k. absurd (no_pick k) }

dashes_have_none : (m : ℕ) (k : ℕ) → has_literal (dashes m) k ≡ false
unfolding has_literal dashes is_literal
dashes_have_none zero k = refl
dashes_have_none (suc m) zero = refl
dashes_have_none (suc m) (suc k) = dashes_have_none m k

irredundant_all : (m : ℕ) (L : Fn m) (U : Fn m) → always false m L ≡ false → Irredundant m L U (dashes m ∷ [])
unfolding covers_any
irredundant_all m L U e =
    record { row = λ c left k. subst⁻¹ (Bare m L) (only_left k) bare; literal = λ c left k j h. clash (sym (ap (λ d. has_literal d j) (only_pick k)) ∙ h) (dashes_have_none m j) }
  where
    bare : Bare m L []
    bare = let q = not_always false m L e in record { point = q.point; whole = q.whole; on = q.value; bare = refl }

-- In the rule's list no row and no literal is too many.
pub list_irredundant : (m : ℕ) (L : Fn m) (U : Fn m) → within m L U ≡ true → Irredundant m L U (list_of m L U)
list_irredundant zero L U w =
    by_step (Irredundant zero L U) zero L U (λ e. irredundant_none zero L U) (λ e e'. irredundant_all zero L U e)
    (λ e e'. clash (no_step-left L U w e) e')
list_irredundant (suc m) L U w =
    by_step (Irredundant (suc m) L U) (suc m) L U (λ e. irredundant_none (suc m) L U) (λ e e'. irredundant_all (suc m) L U e)
    (λ e e'.
    subst⁻¹ (Irredundant (suc m) L U) (list_step3 m L U e e')
    (irredundant_result m (list_of m) (list-covers m) (list_irredundant m) L U w))
