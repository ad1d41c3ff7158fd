-- The rule's list is the same whether every column is expanded or the leftmost on which a root depends: of a column on which
-- neither depends, lists A and B are empty, being for L less U, and list C is that of the half, under a dash.
use mathlib.Core.Path.{◌≡◌, refl, sym, ap, ap₂, ◌∙◌}
use mathlib.Core.Bool.{Bool, true, false, and_self}
use mathlib.Core.List.{List, []}
use mathlib.Core.Logic.{◌⊎◌, inl, inr}
use Prim.Native.Nat.{ℕ, zero, suc}
use Rattle.rule.specs.Func.{Fn, constant, always, same, within}
use Rattle.rule.specs.Cube.{dash, Cube, covered, dashes}
use Rattle.rule.specs.Rule.{steps, put, result, list_of, idle, leave_out, leftmost}
use Rattle.rule.specs.Rule.{p0_of, p1_of, g0_of, g1_of, r0_of, r1_of, r0_or_r1, u0_and_u1, list_a, list_b, list_c, g_star, g_of}
use Rattle.rule.proofs.Bools.{which, and_left, and_right}
use Rattle.rule.proofs.Trees.{same_equal}
use Rattle.rule.proofs.Operations.{constant-always, less_around, less_none, either_itself, both_itself}
use Rattle.rule.proofs.CoverSteps.{cover-none, cover-dash}
use Rattle.rule.proofs.Steps.{list_step1, list_step2, list_step3}
use Rattle.rule.proofs.Cover.{list-covers, within_0, within_a, within_b, within_c}

-- A half twice is everywhere b if the half is.
pub twin_always : (b : Bool) (m : ℕ) (f : Fn m) → always b (suc m) (f, f) ≡ always b m f
unfolding always
twin_always b m f = and_self (always b m f)

-- A function that does not depend on the first column is its half twice.
twin : (m : ℕ) (f : Fn (suc m)) → same m f.0 f.1 ≡ true → f ≡ (f.0, f.0)
twin m f e = λ i. (f.0, sym (same_equal m f.0 f.1 e) i)

pub idle-lower : (m : ℕ) (L U : Fn (suc m)) → idle m L U ≡ true → L ≡ (L.0, L.0)
unfolding idle
idle-lower m L U e = twin m L (and_left (same m L.0 L.1) (same m U.0 U.1) e)

pub idle-upper : (m : ℕ) (L U : Fn (suc m)) → idle m L U ≡ true → U ≡ (U.0, U.0)
unfolding idle
idle-upper m L U e = twin m U (and_right (same m L.0 L.1) (same m U.0 U.1) e)

-- Step 3 on such a column.
module _ (m : ℕ) (l u : Fn m) (w : within m l u ≡ true) where
  -- P0 and P1 are 0, so lists A and B are empty, and what they leave of l is l.
  pub idle-p0_of : p0_of m (list_of m) (l, l) (u, u) ≡ constant m false
  unfolding p0_of
  idle-p0_of = less_around m l u w

  pub idle-p1_of : p1_of m (list_of m) (l, l) (u, u) ≡ constant m false
  unfolding p1_of
  idle-p1_of = less_around m l u w

  pub idle_a : list_a m (list_of m) (l, l) (u, u) ≡ []
  unfolding list_a
  idle_a = rw idle-p0_of (list_step1 m (constant m false) u (constant-always false m))

  pub idle_b : list_b m (list_of m) (l, l) (u, u) ≡ []
  unfolding list_b
  idle_b = rw idle-p1_of (list_step1 m (constant m false) u (constant-always false m))

  pub idle-g0_of : g0_of m (list_of m) (l, l) (u, u) ≡ constant m false
  unfolding g0_of
  idle-g0_of = rw idle_a (cover-none m)

  pub idle-g1_of : g1_of m (list_of m) (l, l) (u, u) ≡ constant m false
  unfolding g1_of
  idle-g1_of = rw idle_b (cover-none m)

  pub idle-r0_of : r0_of m (list_of m) (l, l) (u, u) ≡ l
  unfolding r0_of
  idle-r0_of = rw idle-g0_of (less_none m l)

  pub idle-r1_of : r1_of m (list_of m) (l, l) (u, u) ≡ l
  unfolding r1_of
  idle-r1_of = rw idle-g1_of (less_none m l)

  -- So list C is for l and u.
  pub idle-r0_or_r1 : r0_or_r1 m (list_of m) (l, l) (u, u) ≡ l
  unfolding r0_or_r1
  idle-r0_or_r1 = rw (idle-r0_of, idle-r1_of) (either_itself m l)

  pub idle-u0_and_u1 : u0_and_u1 m (list_of m) (l, l) (u, u) ≡ u
  unfolding u0_and_u1
  idle-u0_and_u1 = both_itself m u

  pub idle_c : list_c m (list_of m) (l, l) (u, u) ≡ list_of m l u
  unfolding list_c
  idle_c = cc (idle-r0_or_r1, idle-u0_and_u1)

  pub idle-g_star : g_star m (list_of m) (l, l) (u, u) ≡ covered m (list_of m l u)
  unfolding g_star
  idle-g_star = ap (covered m) idle_c

  pub idle-result : result m (list_of m) (l, l) (u, u) ≡ put dash (list_of m l u)
  unfolding result put
  idle-result = rw (idle_a, idle_b, idle_c)

  pub idle-g_of : g_of m (list_of m) (l, l) (u, u) ≡ (covered m (list_of m l u), covered m (list_of m l u))
  unfolding g_of
  idle-g_of = ap (covered (suc m)) idle-result ∙ cover-dash m (list_of m l u)

  -- Expanding it gives the list of the half, under a dash.
  pub idle-list : list_of (suc m) (l, l) (u, u) ≡ put dash (list_of m l u)
  unfolding put dashes
  idle-list = go (which (always false m l)) (which (always true m u))
    where
      go : (always false m l ≡ true) ⊎ (always false m l ≡ false) → (always true m u ≡ true) ⊎ (always true m u ≡ false) →
          list_of (suc m) (l, l) (u, u) ≡ put dash (list_of m l u)
      go (inl e) x = list_step1 (suc m) (l, l) (u, u) (twin_always false m l ∙ e) ∙ sym (ap (put dash) (list_step1 m l u e))
      go (inr e) (inl e') =
          list_step2 (suc m) (l, l) (u, u) (twin_always false m l ∙ e) (twin_always true m u ∙ e') ∙
          sym (ap (put dash) (list_step2 m l u e e'))
      go (inr e) (inr e') =
          list_step3 m (l, l) (u, u) (twin_always false m l ∙ e) (twin_always true m u ∙ e') ∙ idle-result

-- So does step 3, by the test for such a column.
pub first-within : (m : ℕ) (L U : Fn (suc m)) → within (suc m) L U ≡ true → within m L.0 U.0 ≡ true
first-within m L U w = within_0 m (list_of m) (list-covers m) L U w

pub idle_expanded : (m : ℕ) (L U : Fn (suc m)) → within (suc m) L U ≡ true → idle m L U ≡ true →
    result m (list_of m) L U ≡ put dash (list_of m L.0 U.0)
idle_expanded m L U w e =
    ap₂ (result m (list_of m)) (idle-lower m L U e) (idle-upper m L U e) ∙ idle-result m L.0 U.0 (first-within m L U w)

-- Step 3 on any other column, by lists that are the rule's where the lower root is within the upper.
module _ (m : ℕ) (list : Fn m → Fn m → List Cube)
    (agree : (l u : Fn m) → within m l u ≡ true → list l u ≡ list_of m l u)
    (L U : Fn (suc m)) (w : within (suc m) L U ≡ true) where
  pub same-p0_of : p0_of m list L U ≡ p0_of m (list_of m) L U
  unfolding p0_of
  same-p0_of = refl

  pub same-p1_of : p1_of m list L U ≡ p1_of m (list_of m) L U
  unfolding p1_of
  same-p1_of = refl

  same_a : list_a m list L U ≡ list_a m (list_of m) L U
  unfolding list_a p0_of
  same_a = agree (p0_of m list L U) U.0 (within_a m (list_of m) (list-covers m) L U w)

  same_b : list_b m list L U ≡ list_b m (list_of m) L U
  unfolding list_b p1_of
  same_b = agree (p1_of m list L U) U.1 (within_b m (list_of m) (list-covers m) L U w)

  pub same-g0_of : g0_of m list L U ≡ g0_of m (list_of m) L U
  unfolding g0_of
  same-g0_of = ap (covered m) same_a

  pub same-g1_of : g1_of m list L U ≡ g1_of m (list_of m) L U
  unfolding g1_of
  same-g1_of = ap (covered m) same_b

  pub same-r0_of : r0_of m list L U ≡ r0_of m (list_of m) L U
  unfolding r0_of
  same-r0_of = rw same-g0_of

  pub same-r1_of : r1_of m list L U ≡ r1_of m (list_of m) L U
  unfolding r1_of
  same-r1_of = rw same-g1_of

  pub same-r0_or_r1 : r0_or_r1 m list L U ≡ r0_or_r1 m (list_of m) L U
  unfolding r0_or_r1
  same-r0_or_r1 = rw (same-r0_of, same-r1_of)

  pub same-u0_and_u1 : u0_and_u1 m list L U ≡ u0_and_u1 m (list_of m) L U
  unfolding u0_and_u1
  same-u0_and_u1 = refl

  same_c : list_c m list L U ≡ list_c m (list_of m) L U
  unfolding list_c
  same_c =
      rw (same-r0_or_r1, same-u0_and_u1)
      (agree (r0_or_r1 m (list_of m) L U) (u0_and_u1 m (list_of m) L U) (within_c m (list_of m) (list-covers m) L U w))

  pub same-g_star : g_star m list L U ≡ g_star m (list_of m) L U
  unfolding g_star
  same-g_star = ap (covered m) same_c

  pub same-result : result m list L U ≡ result m (list_of m) L U
  unfolding result
  same-result = rw (same_a, same_b, same_c)

  pub same-g_of : g_of m list L U ≡ g_of m (list_of m) L U
  unfolding g_of
  same-g_of = ap (covered (suc m)) same-result

-- What the three steps give is the same where what step 3 gives is, if step 3 is reached.
pub same-steps :
    {A B : Type 0} (f : List A → B) (l u : Bool) (two : List A) (three three' : Unit {0} → List A) →
    (l ≡ false → u ≡ false → f (three tt) ≡ f (three' tt)) → f (steps l u two three) ≡ f (steps l u two three')
unfolding steps
same-steps f true u two three three' h = refl
same-steps f false true two three three' h = refl
same-steps f false false two three three' h = h refl refl

-- The list by document 01's words is the list that expands every column.
pub leftmost-list : (m : ℕ) (L U : Fn m) → within m L U ≡ true → leftmost m L U ≡ list_of m L U
unfolding leftmost list_of leave_out
leftmost-list zero L U w = refl
leftmost-list (suc m) L U w =
    same-steps (λ cs. cs) (always false (suc m) L) (always true (suc m) U) _ _ _
    (λ e e'. go (idle m L U) refl (leftmost-list m))
  where
    go : (b : Bool) → idle m L U ≡ b →
        ((l u : Fn m) → within m l u ≡ true → leftmost m l u ≡ list_of m l u) →
        leave_out b (λ v. put dash (leftmost m L.0 U.0)) (λ v. result m (leftmost m) L U) ≡ result m (list_of m) L U
    go true i ih = ap (put dash) (ih L.0 U.0 (first-within m L U w)) ∙ sym (idle_expanded m L U w i)
    go false i ih = same-result m (leftmost m) ih L U w
