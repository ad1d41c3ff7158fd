-- The three steps of the list rule, each as an equation under its test, what a step's result covers, and what lists A, B and
-- C are for.
use mathlib.Core.Path.{◌≡◌, refl, sym, ap, ◌∙◌, subst⁻¹}
use mathlib.Core.Logic.{◌⊎◌, inl, inr}
use mathlib.Core.Bool.{Bool, true, false, ◌&&◌, ◌||◌}
use mathlib.Core.List.{List, [], ◌∷◌, ◌++◌}
use Prim.Native.Nat.{ℕ, zero, suc}
use Rattle.rule.specs.Func.{Fn, half, always}
use Rattle.rule.specs.Point.{Pt, lead, rest, at}
use Rattle.rule.specs.Cube.{sign0, sign1, dash, Cube, permits, covers_any, dashes}
use Rattle.rule.specs.Rule.{steps, put, p0_of, p1_of, r0_of, r1_of, r0_or_r1, list_a, list_b, list_c, result, list_of}
use Rattle.rule.proofs.Func.{at-either, less-out}
use Rattle.rule.proofs.Cubes.{any_append, any_put}
use Rattle.rule.proofs.Bools.{or_none, or_true, which}

-- Step 1: L is 0.
pub step1 : {A : Type 0} (l : Bool) (u : Bool) (two : List A) (three : Unit {0} → List A) → l ≡ true → steps l u two three ≡ []
unfolding steps
step1 l u two three e = ap (λ b. steps b u two three) e

-- Step 2: otherwise, U is 1.
pub step2 : {A : Type 0} (l : Bool) (u : Bool) (two : List A) (three : Unit {0} → List A) → l ≡ false → u ≡ true → steps l u two three ≡ two
unfolding steps
step2 l u two three e e' = ap (λ b. steps b u two three) e ∙ ap (λ b. steps false b two three) e'

-- Step 3: otherwise.
pub step3 : {A : Type 0} (l : Bool) (u : Bool) (two : List A) (three : Unit {0} → List A) → l ≡ false → u ≡ false → steps l u two three ≡ three tt
unfolding steps
step3 l u two three e e' = ap (λ b. steps b u two three) e ∙ ap (λ b. steps false b two three) e'

pub list_step1 : (m : ℕ) (L : Fn m) (U : Fn m) → always false m L ≡ true → list_of m L U ≡ []
unfolding list_of
list_step1 zero L U e = step1 (always false zero L) (always true zero U) _ _ e
list_step1 (suc m) L U e = step1 (always false (suc m) L) (always true (suc m) U) _ _ e

pub list_step2 : (m : ℕ) (L : Fn m) (U : Fn m) → always false m L ≡ false → always true m U ≡ true → list_of m L U ≡ dashes m ∷ []
unfolding list_of
list_step2 zero L U e e' = step2 (always false zero L) (always true zero U) _ _ e e'
list_step2 (suc m) L U e e' = step2 (always false (suc m) L) (always true (suc m) U) _ _ e e'

pub list_step3 : (m : ℕ) (L : Fn (suc m)) (U : Fn (suc m)) → always false (suc m) L ≡ false → always true (suc m) U ≡ false → list_of (suc m) L U ≡ result m (list_of m) L U
unfolding list_of
list_step3 m L U e e' = step3 (always false (suc m) L) (always true (suc m) U) _ _ e e'

-- Where no column is left, step 3 is none.
pub list_end : (L : Fn zero) (U : Fn zero) → always false zero L ≡ false → always true zero U ≡ false → list_of zero L U ≡ []
unfolding list_of
list_end L U e e' = step3 (always false zero L) (always true zero U) _ _ e e'

-- What holds of a list after each of the three steps holds of the rule's list.
pub by_step : (P : List Cube → Type 0) (m : ℕ) (L : Fn m) (U : Fn m) →
    (always false m L ≡ true → P []) →
    (always false m L ≡ false → always true m U ≡ true → P (dashes m ∷ [])) →
    (always false m L ≡ false → always true m U ≡ false → P (list_of m L U)) → P (list_of m L U)
by_step P m L U one two three = go (which (always false m L)) (which (always true m U))
  where
    go : (always false m L ≡ true) ⊎ (always false m L ≡ false) → (always true m U ≡ true) ⊎ (always true m U ≡ false) → P (list_of m L U)
    go (inl e) u = subst⁻¹ P (list_step1 m L U e) (one e)
    go (inr e) (inl e') = subst⁻¹ P (list_step2 m L U e e') (two e e')
    go (inr e) (inr e') = three e e'

by_digit : (m : ℕ) (A : List Cube) (B : List Cube) (C : List Cube) (q : Pt) (d : Bool) →
    ((permits sign0 d && covers_any m A q) || (permits sign1 d && covers_any m B q) || (permits dash d && covers_any m C q)) ≡
    (covers_any m (half d (A, B)) q || covers_any m C q)
unfolding half permits
by_digit m A B C q false = ap (λ b. b || covers_any m C q) (or_none (covers_any m A q))
by_digit m A B C q true = refl

-- Three lists under 0, 1 and dash cover, for a digit of the first column, what that half's list covers, and what the last does.
pub any_joined : (m : ℕ) (A : List Cube) (B : List Cube) (C : List Cube) (p : Pt) →
    covers_any (suc m) (put sign0 A ++ put sign1 B ++ put dash C) p ≡
    (covers_any m (half (lead p) (A, B)) (rest p) || covers_any m C (rest p))
any_joined m A B C p =
    any_append (suc m) (put sign0 A ++ put sign1 B) (put dash C) p ∙
    ap (λ b. b || covers_any (suc m) (put dash C) p) (any_append (suc m) (put sign0 A) (put sign1 B) p) ∙
    ap (λ b. b || covers_any (suc m) (put sign1 B) p || covers_any (suc m) (put dash C) p) (any_put m sign0 A p) ∙
    ap (λ b. (permits sign0 (lead p) && covers_any m A (rest p)) || b || covers_any (suc m) (put dash C) p) (any_put m sign1 B p) ∙
    ap (λ b. (permits sign0 (lead p) && covers_any m A (rest p)) || (permits sign1 (lead p) && covers_any m B (rest p)) || b) (any_put m dash C p) ∙
    by_digit m A B C (rest p) (lead p)

-- So does the result of step 3.
pub any_result : (m : ℕ) (list : Fn m → Fn m → List Cube) (L : Fn (suc m)) (U : Fn (suc m)) (p : Pt) →
    covers_any (suc m) (result m list L U) p ≡
    (covers_any m (half (lead p) (list_a m list L U, list_b m list L U)) (rest p) || covers_any m (list_c m list L U) (rest p))
unfolding result
any_result m list L U p = any_joined m (list_a m list L U) (list_b m list L U) (list_c m list L U) p

-- What lists A and B are for lies outside the other half's upper root; what list C is for, A or B left.
module _ (m : ℕ) (list : Fn m → Fn m → List Cube) (L : Fn (suc m)) (U : Fn (suc m)) where
  pub p0_of-off : (q : Pt) → at m (p0_of m list L U) q ≡ true → at m U.1 q ≡ false
  unfolding p0_of
  p0_of-off q t = less-out m L.0 U.1 q t

  pub p1_of-off : (q : Pt) → at m (p1_of m list L U) q ≡ true → at m U.0 q ≡ false
  unfolding p1_of
  p1_of-off q t = less-out m L.1 U.0 q t

  pub c_for_left : (q : Pt) → at m (r0_or_r1 m list L U) q ≡ true → (at m (r0_of m list L U) q ≡ true) ⊎ (at m (r1_of m list L U) q ≡ true)
  unfolding r0_or_r1
  c_for_left q t =
      or_true (at m (r0_of m list L U) q) (at m (r1_of m list L U) q)
      (sym (at-either m (r0_of m list L U) (r1_of m list L U) q) ∙ t)
