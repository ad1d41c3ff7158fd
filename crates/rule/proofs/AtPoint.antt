-- The three-valued rules are the list rule at a point. A value stands for the lower and the upper root there; so each step's
-- sums give the entry's value, and two values of a step can meet, since what a list covers lies within the upper root of its
-- half and what it leaves within both halves' upper roots.
use mathlib.Core.Path.{◌≡◌, refl, sym, ap, ◌∙◌}
use mathlib.Core.Bool.{Bool, true, false, not, ◌&&◌, ◌||◌}
use mathlib.Core.List.{List}
use Prim.Native.Nat.{ℕ, suc}
use Rattle.std.specs.Prelude.{Some}
use Rattle.rule.specs.Func.{Fn, but_not, both, either, less, within}
use Rattle.rule.specs.Point.{Pt, at}
use Rattle.rule.specs.Cube.{Cube, covered}
use Rattle.rule.specs.Rule.{p0_of, p1_of, g0_of, g1_of, r0_of, r1_of, r0_or_r1, u0_and_u1, list_a, list_b, list_of}
use Rattle.rule.specs.Three.{lower, upper, value_of, value_at, lower_sum, upper_sum, is_star, arises, entry_of}
use Rattle.rule.specs.declared.three.Value.{Value}
use Rattle.rule.specs.declared.three.Rule.{Rule}
use Rattle.rule.specs.declared.three.Rule.TheVariants.{Keep, Remove, Join}
use Rattle.rule.proofs.Bools.{and_left, and_right, or_left, or_right}
use Rattle.rule.proofs.Func.{at_joined, at_both, at-either, within-at}
use Rattle.rule.proofs.Cubes.{at-covered}
use Rattle.rule.proofs.Cover.{Covers, list-covers, within_0, within_1, covers_a, covers_b, within_c}

-- A step follows a rule where its two values can meet and the table's entry for them is the value that the step gives.
pub record Follows (r : Rule) (a : Value) (b : Value) (v : Value) : Type 0 where
  pub meet : arises r a b ≡ true
  pub gives : Some v ≡ entry_of r a b

-- It does where the values can meet and the step's sums are the rule's.
by_sums : (r : Rule) (a : Value) (b : Value) (l : Bool) (u : Bool) → arises r a b ≡ true → l ≡ lower_sum r a b → u ≡ upper_sum r a b → Follows r a b (value_of l u)
unfolding entry_of
by_sums r a b l u m el eu = record { meet = m; gives = rw (m, el, eu) refl }

-- A value that stands for two roots, the lower within the upper, tells them.
lower_of : (l : Bool) (u : Bool) → lower (value_of l u) ≡ l
unfolding lower value_of
lower_of true u = refl
lower_of false true = refl
lower_of false false = refl

upper_of : (l : Bool) (u : Bool) → (l ≡ true → u ≡ true) → upper (value_of l u) ≡ u
unfolding upper value_of
upper_of true u h = sym (h refl)
upper_of false true h = refl
upper_of false false h = refl

-- A cover, taken as both roots, is no star.
no_star : (g : Bool) → is_star (value_of g g) ≡ false
unfolding is_star value_of
no_star true = refl
no_star false = refl

inside : (a : Bool) (b : Bool) → (a ≡ true → b ≡ true) → but_not a b ≡ false
unfolding but_not
inside true b h = ap not (h refl)
inside false b h = refl

-- The three rules over truth values: l and u are a half's lower and upper root, l' and u' the other's, g is a cover.
keep : (l : Bool) (u : Bool) (l' : Bool) (u' : Bool) → (l ≡ true → u ≡ true) → (l' ≡ true → u' ≡ true) →
    Follows Keep (value_of l u) (value_of l' u') (value_of (but_not l u') u)
unfolding lower_sum upper_sum arises
keep l u l' u' h h' =
    by_sums Keep (value_of l u) (value_of l' u') (but_not l u') u refl (rw (lower_of l u, upper_of l' u' h'))
    (rw (upper_of l u h))

remove : (l : Bool) (u : Bool) (g : Bool) → (l ≡ true → u ≡ true) → (g ≡ true → u ≡ true) →
    Follows Remove (value_of l u) (value_of g g) (value_of (but_not l g) u)
unfolding lower_sum upper_sum arises
remove l u g h k =
    by_sums Remove (value_of l u) (value_of g g) (but_not l g) u
    (rw (no_star g, lower_of g g, upper_of l u h, inside g u k))
    (rw (lower_of l u, lower_of g g))
    (rw (upper_of l u h))

join : (l : Bool) (u : Bool) (l' : Bool) (u' : Bool) → ((l || l') ≡ true → (u && u') ≡ true) →
    Follows Join (value_of l u) (value_of l' u') (value_of (l || l') (u && u'))
unfolding lower_sum upper_sum arises
join l u l' u' h =
    by_sums Join (value_of l u) (value_of l' u') (l || l') (u && u')
    (rw (lower_of l u, lower_of l' u', left, right, inside l u' (λ t. and_right u u' (h (or_left l l' t))), inside l' u (λ t. and_left u u' (h (or_right l l' t)))))
    (rw (lower_of l u, lower_of l' u'))
    (rw (left, right))
  where
    left : upper (value_of l u) ≡ u
    left = upper_of l u (λ t. and_left u u' (h (or_left l l' t)))

    right : upper (value_of l' u') ≡ u'
    right = upper_of l' u' (λ t. and_right u u' (h (or_right l l' t)))

-- The same at a point q of functions; a half is (L, U), and the other (L', U').
module _ (m : ℕ) (L : Fn m) (U : Fn m) (w : within m L U ≡ true) (q : Pt) where
  keep_at : (L' : Fn m) (U' : Fn m) → within m L' U' ≡ true →
      Follows Keep (value_at m L U q) (value_at m L' U' q) (value_at m (less m L U') U q)
  unfolding value_at less
  keep_at L' U' w' =
      rw (at_joined but_not m L U' q)
      (keep (at m L q) (at m U q) (at m L' q) (at m U' q) (within-at m L U q w) (within-at m L' U' q w'))

  remove_at : (P : Fn m) (cs : List Cube) → Covers m P U cs →
      Follows Remove (value_at m L U q) (value_at m (covered m cs) (covered m cs) q) (value_at m (less m L (covered m cs)) U q)
  unfolding value_at less
  remove_at P cs c =
      rw (at_joined but_not m L (covered m cs) q)
      (remove (at m L q) (at m U q) (at m (covered m cs) q) (within-at m L U q w)
      (λ t. c.off q (sym (at-covered m cs q) ∙ t)))

join_at : (m : ℕ) (R : Fn m) (U : Fn m) (R' : Fn m) (U' : Fn m) (q : Pt) → within m (either m R R') (both m U U') ≡ true →
    Follows Join (value_at m R U q) (value_at m R' U' q) (value_at m (either m R R') (both m U U') q)
unfolding value_at
join_at m R U R' U' q w =
    rw (at-either m R R' q, at_both m U U' q)
    (join (at m R q) (at m U q) (at m R' q) (at m U' q)
    (λ t. sym (at_both m U U' q) ∙ within-at m (either m R R') (both m U U') q w (at-either m R R' q ∙ t)))

-- Every step 3 follows the three rules at a point of the columns after the first.
pub record StepFollows (m : ℕ) (list : Fn m → Fn m → List Cube) (L : Fn (suc m)) (U : Fn (suc m)) (q : Pt) : Type 0 where
  pub keep_0 : Follows Keep (value_at m L.0 U.0 q) (value_at m L.1 U.1 q) (value_at m (p0_of m list L U) U.0 q)
  pub keep_1 : Follows Keep (value_at m L.1 U.1 q) (value_at m L.0 U.0 q) (value_at m (p1_of m list L U) U.1 q)
  pub remove_0 : Follows Remove (value_at m L.0 U.0 q) (value_at m (g0_of m list L U) (g0_of m list L U) q) (value_at m (r0_of m list L U) U.0 q)
  pub remove_1 : Follows Remove (value_at m L.1 U.1 q) (value_at m (g1_of m list L U) (g1_of m list L U) q) (value_at m (r1_of m list L U) U.1 q)
  pub join : Follows Join (value_at m (r0_of m list L U) U.0 q) (value_at m (r1_of m list L U) U.1 q) (value_at m (r0_or_r1 m list L U) (u0_and_u1 m list L U) q)

pub step_follows : (m : ℕ) (list : Fn m → Fn m → List Cube) (ih : (L : Fn m) (U : Fn m) → within m L U ≡ true → Covers m L U (list L U))
    (L : Fn (suc m)) (U : Fn (suc m)) → within (suc m) L U ≡ true → (q : Pt) → StepFollows m list L U q
unfolding p0_of p1_of g0_of g1_of r0_of r1_of r0_or_r1 u0_and_u1
step_follows m list ih L U w q =
    record {
      keep_0 = keep_at m L.0 U.0 w0 q L.1 U.1 w1;
      keep_1 = keep_at m L.1 U.1 w1 q L.0 U.0 w0;
      remove_0 = remove_at m L.0 U.0 w0 q (p0_of m list L U) (list_a m list L U) (covers_a m list ih L U w);
      remove_1 = remove_at m L.1 U.1 w1 q (p1_of m list L U) (list_b m list L U) (covers_b m list ih L U w);
      join = join_at m (r0_of m list L U) U.0 (r1_of m list L U) U.1 q (within_c m list ih L U w);
    }
  where
    w0 : within m L.0 U.0 ≡ true
    w0 = within_0 m list ih L U w

    w1 : within m L.1 U.1 ≡ true
    w1 = within_1 m list ih L U w

-- So do the steps of the rule.
pub rule_follows : (m : ℕ) (L : Fn (suc m)) (U : Fn (suc m)) → within (suc m) L U ≡ true → (q : Pt) → StepFollows m (list_of m) L U q
rule_follows m L U w q = step_follows m (list_of m) (list-covers m) L U w q
