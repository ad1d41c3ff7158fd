-- A walk over the columns left: what it needs and what it finds at the last column, and from a column to the next.
use mathlib.Core.Path.{◌≡◌, refl, sym, ap, ap₂, ◌∙◌, subst⁻¹}
use mathlib.Core.Bool.{Bool, true, false, not, ◌&&◌, ◌||◌}
use mathlib.Core.List.{List}
use mathlib.Core.Logic.{⊎_elim}
use Prim.Native.Nat.{ℕ, zero, suc, ◌+◌, ◌/◌}
use native.Mathlib.Omega.{arith}
use lib.Dec.{eqb}
use borrow.Author.Tests.{eq-eqb, ne_eqb}
use Rattle.rule.specs.Func.{half, constant, within}
use Rattle.rule.specs.Point.{at, odd, digits}
use Rattle.rule.proofs.Bools.{clash}
use Rattle.rule.proofs.Func.{at_constant, at-digit, at-within}
use Rattle.graph.specs.Table.{Table, table_of, half_of, fn_of, refers, good_table}
use Rattle.graph.specs.Sound.{Held, Rooted, RootedTwice}
use Rattle.graph.proofs.Tests.{refers-is}
use Rattle.graph.proofs.Numbers.{half-refers, end_constant, fn_zero, fn_one}

module _ {n : ℕ} {c : ℕ} {v : List ℕ} {l : List ℕ} {h : List ℕ} {k : ℕ} where
  -- A reference is a number that the slices hold, and its halves are references at the next column.
  pub root_held : {x : ℕ} → Rooted n c v l h k x → Held x v l h
  root_held {x} r =
      record {
        level =
            ⊎_elim (λ s. omega arith) (λ u. omega (arith, u.number, u.used, r.sound.sized.count))
            (refers-is (table_of v l h) c k x r.number);
        low = r.sound.sized.low;
        high = r.sound.sized.high;
      }

  pub root-next : {x : ℕ} → Rooted n c v l h k x → (k ≡ n → ⊥) → (d : Bool) (y : ℕ) → y ≡ half_of (table_of v l h) k d x → Rooted n c v l h (k + 1) y
  root-next {x} r more d y e =
      record {
        sound = r.sound;
        column = omega (arith, r.column);
        number =
            subst⁻¹ (λ z. refers (table_of v l h) c (k + 1) z ≡ true) e
            (half-refers n (table_of v l h) c k d x r.sound.good r.number);
      }

  -- Two references are one and the other.
  pub first-root : {a : ℕ} {b : ℕ} → RootedTwice n c v l h k a b → Rooted n c v l h k a
  first-root r = record { sound = r.sound; column = r.column; number = r.first }

  pub second-root : {a : ℕ} {b : ℕ} → RootedTwice n c v l h k a b → Rooted n c v l h k b
  second-root r = record { sound = r.sound; column = r.column; number = r.second }

  pub both-roots : {a : ℕ} {b : ℕ} → Rooted n c v l h k a → Rooted n c v l h k b → RootedTwice n c v l h k a b
  both-roots r s = record { sound = r.sound; column = r.column; first = r.number; second = s.number }

-- The value r of a number at a point, and whether (r) one number lies within another, over the columns from k to the last.
abbrev pub Value : ℕ → Table → ℕ → ℕ → ℕ → Bool → Type 0
Value n T k x p r = (m : ℕ) → k + m ≡ n → r ≡ at m (fn_of T k m x) (digits m p)

abbrev pub Inside : ℕ → Table → ℕ → ℕ → ℕ → Bool → Type 0
Inside n T k a b r = (m : ℕ) → k + m ≡ n → r ≡ within m (fn_of T k m a) (fn_of T k m b)

module _ (n : ℕ) (T : Table) (k : ℕ) where
  -- At the last column a number is 1 or it is not.
  pub value_end : k ≡ n → (x : ℕ) (p : ℕ) → Value n T k x p (eqb x 1)
  unfolding at fn_of
  value_end e x p zero s = refl
  value_end e x p (suc m) s = let z : ⊥ = omega arith in absurd z

  -- Before it the value is that of the half for the point's next digit.
  half_function : (m : ℕ) (d : Bool) (x : ℕ) → half d (fn_of T k (suc m) x) ≡ fn_of T (k + 1) m (half_of T k d x)
  unfolding half fn_of
  half_function m false x = refl
  half_function m true x = refl

  pub value_next : (k ≡ n → ⊥) → (x : ℕ) (p : ℕ) (y : ℕ) → y ≡ half_of T k (odd p) x → (r : Bool) → Value n T (k + 1) y (p / 2) r → Value n T k x p r
  unfolding digits
  value_next more x p y e r h zero s = let z : ⊥ = omega arith in absurd z
  value_next more x p y e r h (suc m) s =
      h m (omega arith) ∙
      ap (λ f. at m f (digits m (p / 2))) (ap (fn_of T (k + 1) m) e ∙ sym (half_function m (odd p) x)) ∙
      sym (at-digit m (fn_of T k (suc m) x) (odd p) (digits m (p / 2)))

  -- The constant 0 lies within anything, anything within the constant 1, and a number within itself.
  pub zero_inside : (a : ℕ) (b : ℕ) → a ≡ 0 → Inside n T k a b true
  zero_inside a b e m s =
      sym
      (ap (λ x. within m (fn_of T k m x) (fn_of T k m b)) e ∙
      ap (λ f. within m f (fn_of T k m b)) (fn_zero T k m) ∙
      at-within m (constant m false) (fn_of T k m b) (λ p w t. clash t (at_constant m false p)))

  pub inside_one : (a : ℕ) (b : ℕ) → b ≡ 1 → Inside n T k a b true
  inside_one a b e m s =
      sym
      (ap (λ x. within m (fn_of T k m a) (fn_of T k m x)) e ∙
      ap (within m (fn_of T k m a)) (fn_one T k m) ∙
      at-within m (fn_of T k m a) (constant m true) (λ p w t. at_constant m true p))

  pub inside_itself : (a : ℕ) (b : ℕ) → a ≡ b → Inside n T k a b true
  inside_itself a b e m s =
      sym
      (ap (λ x. within m (fn_of T k m a) (fn_of T k m x)) (sym e) ∙
      at-within m (fn_of T k m a) (fn_of T k m a) (λ p w t. t))

  -- At the last column a number that is not 0 is 1, and lies within nothing that is not 1.
  pub outside_end : k ≡ n → (c : ℕ) (a : ℕ) (b : ℕ) → good_table n T c ≡ true → refers T c k a ≡ true → (a ≡ 0 → ⊥) → (b ≡ 1 → ⊥) → Inside n T k a b false
  unfolding within fn_of
  outside_end e c a b g r na nb zero s =
      let small = end_constant n T c a g (subst⁻¹ (λ i. refers T c i a ≡ true) (sym e) r) in
      sym (ap (λ t. not t || eqb b 1) (eq-eqb a 1 (omega arith)) ∙ ne_eqb b 1 nb)
  outside_end e c a b g r na nb (suc m) s = let z : ⊥ = omega arith in absurd z

  -- Before it one lies within the other if both halves do: the first half can refute it, else the second decides.
  module _ (more : k ≡ n → ⊥) (a : ℕ) (b : ℕ) where
    of_halves : (d : Bool) (x : ℕ) (y : ℕ) (r : Bool) → x ≡ half_of T k d a → y ≡ half_of T k d b → Inside n T (k + 1) x y r →
        Inside n T (k + 1) (half_of T k d a) (half_of T k d b) r
    of_halves d x y r p q h m s = h m s ∙ ap₂ (λ u v. within m (fn_of T (k + 1) m u) (fn_of T (k + 1) m v)) p q

    refuted : (r : Bool) → Inside n T (k + 1) (half_of T k false a) (half_of T k false b) r → r ≡ false → Inside n T k a b false
    unfolding within fn_of
    refuted r h e zero s = let z : ⊥ = omega arith in absurd z
    refuted r h e (suc m) s =
        ap (λ t. t && within m (fn_of T (k + 1) m (half_of T k true a)) (fn_of T (k + 1) m (half_of T k true b)))
        (sym e ∙ h m (omega arith))

    decided : (r : Bool) (q : Bool) → Inside n T (k + 1) (half_of T k false a) (half_of T k false b) r → r ≡ true →
        Inside n T (k + 1) (half_of T k true a) (half_of T k true b) q → Inside n T k a b q
    unfolding within fn_of
    decided r q h e g zero s = let z : ⊥ = omega arith in absurd z
    decided r q h e g (suc m) s = ap₂ ◌&&◌ (sym e ∙ h m (omega arith)) (g m (omega arith))

    module _ (x : ℕ) (y : ℕ) (r : Bool) (ex : x ≡ half_of T k false a) (ey : y ≡ half_of T k false b) (h : Inside n T (k + 1) x y r) where
      pub first-half_refutes : r ≡ false → Inside n T k a b false
      first-half_refutes e = refuted r (of_halves false x y r ex ey h) e

      pub second-half_decides : r ≡ true → (x' : ℕ) (y' : ℕ) (q : Bool) → x' ≡ half_of T k true a → y' ≡ half_of T k true b →
          Inside n T (k + 1) x' y' q → Inside n T k a b q
      second-half_decides e x' y' q ex' ey' g = decided r q (of_halves false x y r ex ey h) e (of_halves true x' y' q ex' ey' g)
