-- The rule's list covers every on point and no off point. By induction on the columns: what list A leaves of its half
-- lies in the other half's upper root too, since P0 is covered by A; so list C may cover it for both digits.
use mathlib.Core.Path.{◌≡◌, refl, sym, ◌∙◌, subst⁻¹}
use mathlib.Core.Bool.{Bool, true, false, ◌||◌}
use mathlib.Core.List.{List, [], ◌∷◌}
use mathlib.Core.Logic.{⊎_elim}
use Prim.Native.Nat.{ℕ, zero, suc}
use Rattle.rule.specs.Func.{Fn, half, always, both, either, less, within}
use Rattle.rule.specs.Point.{Pt, lead, rest, at}
use Rattle.rule.specs.Cube.{Cube, covers, covers_any, covered, dashes}
use Rattle.rule.specs.Rule.{p0_of, p1_of, g0_of, g1_of, r0_of, r1_of, r0_or_r1, u0_and_u1, list_a, list_b, list_c, result, list_of}
use Rattle.rule.proofs.Func.{at_both, at-either, in_less, less_in, less-out, always-at, within-at, at-within}
use Rattle.rule.proofs.Cubes.{at-covered, dashes-cover}
use Rattle.rule.proofs.Steps.{by_step, list_step3, any_result}
use Rattle.rule.proofs.Bools.{and_left, and_right, and_intro, or_true, or_left, or_right, or_otherwise, clash, must_be_true}

-- A list covers every point of L and none outside U.
pub record Covers (m : ℕ) (L : Fn m) (U : Fn m) (cs : List Cube) : Type 0 where
  pub on : (p : Pt) → at m L p ≡ true → covers_any m cs p ≡ true
  pub off : (p : Pt) → covers_any m cs p ≡ true → at m U p ≡ true

-- L less something lies within what L lies within.
pub less-within : (m : ℕ) (L : Fn m) (U : Fn m) (f : Fn m) → within m L U ≡ true → within m (less m L f) U ≡ true
less-within m L U f w = at-within m (less m L f) U (λ p e t. within-at m L U p w (less_in m L f p t))

-- What a list for (L less W, U) leaves of L lies within W.
pub left_over : (m : ℕ) (L : Fn m) (U : Fn m) (W : Fn m) (cs : List Cube) → Covers m (less m L W) U cs → within m (less m L (covered m cs)) W ≡ true
left_over m L U W cs c =
    at-within m (less m L (covered m cs)) W
    (λ p e t. must_be_true (at m W p) (λ n. clash (in_cover p t n) (less-out m L (covered m cs) p t)))
  where
    in_cover : (p : Pt) → at m (less m L (covered m cs)) p ≡ true → at m W p ≡ false → at m (covered m cs) p ≡ true
    in_cover p t n = at-covered m cs p ∙ c.on p (in_less m L W p (less_in m L (covered m cs) p t) n)

-- What a list does not cover of L is left.
pub is-left : (m : ℕ) (L : Fn m) (cs : List Cube) (p : Pt) → at m L p ≡ true → covers_any m cs p ≡ false → at m (less m L (covered m cs)) p ≡ true
is-left m L cs p t n = in_less m L (covered m cs) p t (at-covered m cs p ∙ n)

-- Two functions within one, and one within two.
pub either-within : (m : ℕ) (f : Fn m) (g : Fn m) (h : Fn m) → within m f h ≡ true → within m g h ≡ true → within m (either m f g) h ≡ true
either-within m f g h a b =
    at-within m (either m f g) h
    (λ p e t.
    ⊎_elim (within-at m f h p a) (within-at m g h p b) (or_true (at m f p) (at m g p) (sym (at-either m f g p) ∙ t)))

pub within_both : (m : ℕ) (f : Fn m) (g : Fn m) (h : Fn m) → within m f g ≡ true → within m f h ≡ true → within m f (both m g h) ≡ true
within_both m f g h a b =
    at-within m f (both m g h)
    (λ p e t. at_both m g h p ∙ and_intro (at m g p) (at m h p) (within-at m f g p a t) (within-at m f h p b t))

-- Step 3, given that the lists for the columns after the first cover.
module _ (m : ℕ) (list : Fn m → Fn m → List Cube) (ih : (L : Fn m) (U : Fn m) → within m L U ≡ true → Covers m L U (list L U))
    (L : Fn (suc m)) (U : Fn (suc m)) (w : within (suc m) L U ≡ true) where
  pub within_0 : within m L.0 U.0 ≡ true
  unfolding within
  within_0 = and_left (within m L.0 U.0) (within m L.1 U.1) w

  pub within_1 : within m L.1 U.1 ≡ true
  unfolding within
  within_1 = and_right (within m L.0 U.0) (within m L.1 U.1) w

  pub within_a : within m (p0_of m list L U) U.0 ≡ true
  unfolding p0_of
  within_a = less-within m L.0 U.0 _ within_0

  pub within_b : within m (p1_of m list L U) U.1 ≡ true
  unfolding p1_of
  within_b = less-within m L.1 U.1 _ within_1

  pub covers_a : Covers m (p0_of m list L U) U.0 (list_a m list L U)
  unfolding list_a
  covers_a = ih (p0_of m list L U) U.0 within_a

  pub covers_b : Covers m (p1_of m list L U) U.1 (list_b m list L U)
  unfolding list_b
  covers_b = ih (p1_of m list L U) U.1 within_b

  pub within_c : within m (r0_or_r1 m list L U) (u0_and_u1 m list L U) ≡ true
  unfolding r0_or_r1 u0_and_u1 r0_of r1_of g0_of g1_of p0_of p1_of
  within_c =
      either-within m (r0_of m list L U) (r1_of m list L U) (u0_and_u1 m list L U)
      (within_both m (r0_of m list L U) U.0 U.1 (less-within m L.0 U.0 (g0_of m list L U) within_0)
      (left_over m L.0 U.0 U.1 (list_a m list L U) covers_a))
      (within_both m (r1_of m list L U) U.0 U.1 (left_over m L.1 U.1 U.0 (list_b m list L U) covers_b)
      (less-within m L.1 U.1 (g1_of m list L U) within_1))

  pub covers_c : Covers m (r0_or_r1 m list L U) (u0_and_u1 m list L U) (list_c m list L U)
  unfolding list_c
  covers_c = ih (r0_or_r1 m list L U) (u0_and_u1 m list L U) within_c

  -- What is left of either half is in what list C is for.
  left_0 : (q : Pt) → at m (r0_of m list L U) q ≡ true → at m (r0_or_r1 m list L U) q ≡ true
  unfolding r0_or_r1
  left_0 q t = at-either m (r0_of m list L U) (r1_of m list L U) q ∙ or_left (at m (r0_of m list L U) q) (at m (r1_of m list L U) q) t

  left_1 : (q : Pt) → at m (r1_of m list L U) q ≡ true → at m (r0_or_r1 m list L U) q ≡ true
  unfolding r0_or_r1
  left_1 q t = at-either m (r0_of m list L U) (r1_of m list L U) q ∙ or_right (at m (r0_of m list L U) q) (at m (r1_of m list L U) q) t

  -- An on point of a half is covered by that half's list or, being left, by list C.
  on_side : (d : Bool) (q : Pt) → at m (half d L) q ≡ true →
      (covers_any m (half d (list_a m list L U, list_b m list L U)) q || covers_any m (list_c m list L U) q) ≡ true
  unfolding half r0_of r1_of g0_of g1_of
  on_side false q t = or_otherwise (covers_any m (list_a m list L U) q) (covers_any m (list_c m list L U) q) (λ n. covers_c.on q (left_0 q (is-left m L.0 (list_a m list L U) q t n)))
  on_side true q t = or_otherwise (covers_any m (list_b m list L U) q) (covers_any m (list_c m list L U) q) (λ n. covers_c.on q (left_1 q (is-left m L.1 (list_b m list L U) q t n)))

  -- What list C covers lies in both halves' upper roots.
  pub c_in_0 : (q : Pt) → covers_any m (list_c m list L U) q ≡ true → at m U.0 q ≡ true
  unfolding u0_and_u1
  c_in_0 q t = and_left (at m U.0 q) (at m U.1 q) (sym (at_both m U.0 U.1 q) ∙ covers_c.off q t)

  pub c_in_1 : (q : Pt) → covers_any m (list_c m list L U) q ≡ true → at m U.1 q ≡ true
  unfolding u0_and_u1
  c_in_1 q t = and_right (at m U.0 q) (at m U.1 q) (sym (at_both m U.0 U.1 q) ∙ covers_c.off q t)

  off_side : (d : Bool) (q : Pt) →
      (covers_any m (half d (list_a m list L U, list_b m list L U)) q || covers_any m (list_c m list L U) q) ≡ true → at m (half d U) q ≡ true
  unfolding half
  off_side false q t = ⊎_elim (covers_a.off q) (c_in_0 q) (or_true (covers_any m (list_a m list L U) q) (covers_any m (list_c m list L U) q) t)
  off_side true q t = ⊎_elim (covers_b.off q) (c_in_1 q) (or_true (covers_any m (list_b m list L U) q) (covers_any m (list_c m list L U) q) t)

  pub covers-result : Covers (suc m) L U (result m list L U)
  unfolding at
  covers-result =
      record {
        on = λ p t. any_result m list L U p ∙ on_side (lead p) (rest p) t;
        off = λ p t. off_side (lead p) (rest p) (sym (any_result m list L U p) ∙ t);
      }

-- Steps 1 and 2.
covers-none : (m : ℕ) (L : Fn m) (U : Fn m) → always false m L ≡ true → Covers m L U []
unfolding covers_any
covers-none m L U e = record { on = λ p t. clash t (always-at false m L p e); off = λ p t. clash t refl }

covers-all : (m : ℕ) (L : Fn m) (U : Fn m) → always true m U ≡ true → Covers m L U (dashes m ∷ [])
unfolding covers_any
covers-all m L U e =
    record {
      on = λ p t. or_left (covers m (dashes m) p) false (dashes-cover m p);
      off = λ p t. always-at true m U p e;
    }

-- Where no column is left and neither step 1 nor step 2 applies, L is not within U.
pub no_step-left : (L : Bool) (U : Bool) → within zero L U ≡ true → always false zero L ≡ false → always true zero U ≡ true
unfolding within always
no_step-left true true w e = refl
no_step-left true false w e = w
no_step-left false U w e = clash refl e

-- The rule's list covers every on point and no off point.
pub list-covers : (m : ℕ) (L : Fn m) (U : Fn m) → within m L U ≡ true → Covers m L U (list_of m L U)
list-covers zero L U w =
    by_step (Covers zero L U) zero L U (covers-none zero L U) (λ e. covers-all zero L U)
    (λ e e'. clash (no_step-left L U w e) e')
list-covers (suc m) L U w =
    by_step (Covers (suc m) L U) (suc m) L U (covers-none (suc m) L U) (λ e. covers-all (suc m) L U)
    (λ e e'. subst⁻¹ (Covers (suc m) L U) (list_step3 m L U e e') (covers-result m (list_of m) (list-covers m) L U w))
