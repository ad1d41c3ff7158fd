-- A cube as a number, one law for each call and each way out: no column left, the later columns' cube that does not fit,
-- and that cube under a 1, a 0 or a dash. A literal is the node of the cube and the constant 0, a dash is no node.
use mathlib.Core.Path.{◌≡◌, refl, ap₂, subst, subst⁻¹}
use mathlib.Core.Bool.{Bool, true, false}
use Prim.Native.Nat.{ℕ, zero, suc, ◌+◌, ◌-◌, ◌/◌, ◌%◌}
use native.Mathlib.Omega.{arith}
use lib.Dec.{lit<}
use borrow.Author.Tests.{eq-eqb, ne_eqb}
use Rattle.std.specs.Prelude.{Option, Some, None}
use Rattle.rule.specs.Func.{Fn, constant}
use Rattle.rule.specs.Point.{odd}
use Rattle.rule.specs.Cube.{Sign, sign0, sign1, dash, lead_sign, rest_signs, under, cube_fn}
use Rattle.rule.specs.Number.{sign_of, signs_from}
use Rattle.graph.specs.Table.{fn_of, node_fn}
use Rattle.graph.specs.Sound.{Sound}
use Rattle.graph.specs.Built.{Halves, Built, MadeOf}
use Rattle.graph.specs.Lent.{table, HalvesIn, MadeIn}
use Rattle.graph.specs.declared.build.TableMut.{TableMut}
use Rattle.graph.proofs.Tests.{constant-refers}
use Rattle.graph.proofs.Numbers.{fn_zero}
use Rattle.graph.proofs.Building.{built_in_use, made_idle, lacking_idle, lacking_low, lacking_high, built_node, lacking_node}
use Rattle.rows.specs.Naming.{SoundFrom}

-- The function of a cube, given its bits for 1 and for 0.
unfoldable pub cube_of : (m : ℕ) → ℕ → ℕ → Fn m
cube_of m o z = cube_fn m (signs_from m o z)

-- What a call promises of the cube over the columns from column k on.
unfoldable pub CubePromise : TableMut → TableMut → ℕ → ℕ → ℕ → Option ℕ → Type 0
CubePromise t t' k o z r = (m : ℕ) → k + m ≡ t.columns → MadeIn t t' k m (cube_fn m (signs_from m o z)) r

-- A cube's function by the sign of its first column.
module _ (m : ℕ) (o : ℕ) (z : ℕ) where
  by_bits : (a : Bool) (b : Bool) → odd o ≡ a → odd z ≡ b → cube_of (suc m) o z ≡ under (sign_of a b) (cube_of m (o / 2) (z / 2)) (constant m false)
  unfolding cube_of cube_fn signs_from lead_sign rest_signs
  by_bits a b p q = ap₂ (λ x y. under (sign_of x y) (cube_of m (o / 2) (z / 2)) (constant m false)) p q

  under_one : o % 2 ≡ 1 → cube_of (suc m) o z ≡ (constant m false, cube_of m (o / 2) (z / 2))
  unfolding under sign_of odd
  under_one p = by_bits true (odd z) (eq-eqb (o % 2) 1 p) refl

  under_zero : (o % 2 ≡ 1 → ⊥) → z % 2 ≡ 1 → cube_of (suc m) o z ≡ (cube_of m (o / 2) (z / 2), constant m false)
  unfolding under sign_of odd
  under_zero p q = by_bits false true (ne_eqb (o % 2) 1 p) (eq-eqb (z % 2) 1 q)

  under-dash : (o % 2 ≡ 1 → ⊥) → (z % 2 ≡ 1 → ⊥) → cube_of (suc m) o z ≡ (cube_of m (o / 2) (z / 2), cube_of m (o / 2) (z / 2))
  unfolding under sign_of odd
  under-dash p q = by_bits false false (ne_eqb (o % 2) 1 p) (ne_eqb (z % 2) 1 q)

  -- What holds under each sign holds of the cube.
  each_sign : (P : Fn (suc m) → Type 0) → P (cube_of m (o / 2) (z / 2), constant m false) → P (constant m false, cube_of m (o / 2) (z / 2)) → P (cube_of m (o / 2) (z / 2), cube_of m (o / 2) (z / 2)) → P (cube_of (suc m) o z)
  unfolding under
  each_sign P a b d = subst⁻¹ P (by_bits (odd o) (odd z) refl refl) (go (sign_of (odd o) (odd z)))
    where
      go : (s : Sign) → P (under s (cube_of m (o / 2) (z / 2)) (constant m false))
      go sign0 = a
      go sign1 = b
      go dash = d

-- What is built and made, by the number of columns.
abbrev BuiltOver : ℕ → TableMut → TableMut → ℕ → (m : ℕ) → Fn m → ℕ → Type 0
BuiltOver n t t' k m f x = Built n t.count t.level.now t.low.now t.high.now t'.level.now t'.low.now t'.high.now k m f x t'.count

abbrev MadeOver : ℕ → TableMut → TableMut → ℕ → (m : ℕ) → Fn m → Option ℕ → Type 0
MadeOver n t t' k m f r = MadeOf n t.count t.level.now t.low.now t.high.now t'.level.now t'.low.now t'.high.now k m f t'.count r

-- Two halves built one after the other, and then their node.
halves_node : (n : ℕ) (t t₁ t₂ t₃ : TableMut) (k m : ℕ) (f g : Fn m) (x y : ℕ) (r : Option ℕ) → BuiltOver n t t₁ (k + 1) m f x → BuiltOver n t₁ t₂ (k + 1) m g y →
    MadeOver n t₂ t₃ k (suc m) (node_fn (table t₂) k m x y) r → MadeOver n t t₃ k (suc m) (f, g) r
unfolding MadeOf
halves_node n t t₁ t₂ t₃ k m f g x y (Some w) a b d = built_node n _ _ _ _ k m f g _ _ _ x _ a _ _ _ y _ b d
halves_node n t t₁ t₂ t₃ k m f g x y None a b d = lacking_node n _ _ _ _ k m f g _ _ _ x _ a _ _ _ y _ b d

-- The constant 0 is in use before anything is built.
none-built : (n : ℕ) (t : TableMut) (k : ℕ) (m : ℕ) → Sound n t.count t.level.now t.low.now t.high.now → k + suc m ≡ n → BuiltOver n t t (k + 1) m (constant m false) 0
none-built n t k m p s =
    built_in_use n _ _ _ _ (k + 1) m (constant m false) 0 p (omega arith) (constant-refers (table t) t.count (k + 1) 0 (lit< tt)) (fn_zero (table t) (k + 1) m)

module _ (t : TableMut) (k : ℕ) (o : ℕ) (z : ℕ) (p : SoundFrom t k) where
  -- No column is left: the cube is the constant 1.
  pub end_made : k ≡ t.columns → CubePromise t t k o z (Some 1)
  unfolding CubePromise MadeOf cube_fn fn_of
  end_made e zero s = built_in_use _ _ _ _ _ k zero true 1 p.sound s p.number refl
  end_made e (suc m) s = let z : ⊥ = omega arith in absurd z

  module _ (u : k ≡ t.columns → ⊥) where
    -- A column is left.
    pub next-root : SoundFrom t (k + 1)
    next-root =
        record { sound = p.sound; column = omega (arith, p.column); number = constant-refers (table t) t.count (k + 1) 1 (lit< tt) }

    some_left : (t' : TableMut) (r : Option ℕ) → ((m : ℕ) → k + suc m ≡ t.columns → MadeIn t t' k (suc m) (cube_of (suc m) o z) r) → CubePromise t t' k o z r
    unfolding CubePromise cube_of
    some_left t' r f zero s = let z : ⊥ = omega arith in absurd z
    some_left t' r f (suc m) s = f m s

    module _ (t₁ : TableMut) where
      rest_made : (r : Option ℕ) → CubePromise t t₁ (k + 1) (o / 2) (z / 2) r → (m : ℕ) → k + suc m ≡ t.columns → MadeIn t t₁ (k + 1) m (cube_of m (o / 2) (z / 2)) r
      unfolding CubePromise cube_of
      rest_made r q m s = q m (omega arith)

      -- The later columns' cube does not fit: nor does the cube, whatever its sign.
      pub rest_full : CubePromise t t₁ (k + 1) (o / 2) (z / 2) None → CubePromise t t₁ k o z None
      unfolding MadeOf
      rest_full q =
          some_left t₁ None
          (λ m s.
          let f = cube_of m (o / 2) (z / 2) in
          let b = rest_made None q m s in
          each_sign m o z (λ F. MadeIn t t₁ k (suc m) F None)
          (lacking_low _ _ _ _ _ k m f (constant m false) b)
          (lacking_high _ _ _ _ _ k m (constant m false) f _ _ _ 0 _ (none-built _ t k m p.sound s) b)
          (lacking_idle m f b))

      -- A dash is no node.
      pub dash_made : (o % 2 ≡ 1 → ⊥) → (z % 2 ≡ 1 → ⊥) → (r : Option ℕ) → CubePromise t t₁ (k + 1) (o / 2) (z / 2) r → CubePromise t t₁ k o z r
      dash_made d e r q =
          some_left t₁ r
          (λ m s. subst⁻¹ (λ F. MadeIn t t₁ k (suc m) F r) (under-dash m o z d e) (made_idle _ _ _ _ _ _ _ _ k m (cube_of m (o / 2) (z / 2)) _ r (rest_made r q m s)))

      module _ (e : t₁.columns ≡ t.columns) (x : ℕ) (q : CubePromise t t₁ (k + 1) (o / 2) (z / 2) (Some x)) where
        rest-built : (m : ℕ) → k + suc m ≡ t.columns → BuiltOver t.columns t t₁ (k + 1) m (cube_of m (o / 2) (z / 2)) x
        unfolding MadeOf
        rest-built m s = rest_made (Some x) q m s

        -- The cube and the constant 0 are in use at the next column, whatever the columns left are.
        halves : (a : ℕ) (b : ℕ) → ((m : ℕ) → k + suc m ≡ t.columns → Halves t.columns t₁.count t₁.level.now t₁.low.now t₁.high.now k a b) → HalvesIn t₁ k a b
        halves a b f =
            subst⁻¹ (λ n. Halves n t₁.count t₁.level.now t₁.low.now t₁.high.now k a b) e (f (t.columns - (k + 1)) (omega (arith, p.column)))

        node : (a b : ℕ) (r : Option ℕ) (t₂ : TableMut) → ((m : ℕ) → k + suc m ≡ t₁.columns → MadeIn t₁ t₂ k (suc m) (node_fn (table t₁) k m a b) r) →
            (m : ℕ) → k + suc m ≡ t.columns → MadeOver t.columns t₁ t₂ k (suc m) (node_fn (table t₁) k m a b) r
        node a b r t₂ d = subst (λ n. (m : ℕ) → k + suc m ≡ n → MadeOver n t₁ t₂ k (suc m) (node_fn (table t₁) k m a b) r) e d

        -- Under a 1 the low half is the constant 0.
        pub one_halves : HalvesIn t₁ k 0 x
        one_halves =
            halves 0 x
            (λ m s.
            let b = rest-built m s in
            record {
              sound = b.sound;
              column = omega (arith, p.column);
              first = constant-refers (table t₁) t₁.count (k + 1) 0 (lit< tt);
              second = b.number;
            })

        pub one_made : o % 2 ≡ 1 → (t₂ : TableMut) (r : Option ℕ) → ((m : ℕ) → k + suc m ≡ t₁.columns → MadeIn t₁ t₂ k (suc m) (node_fn (table t₁) k m 0 x) r) → CubePromise t t₂ k o z r
        one_made i t₂ r d =
            some_left t₂ r
            (λ m s.
            subst⁻¹ (λ F. MadeIn t t₂ k (suc m) F r) (under_one m o z i)
            (halves_node t.columns t t t₁ t₂ k m (constant m false) (cube_of m (o / 2) (z / 2)) 0 x r (none-built _ t k m p.sound s) (rest-built m s)
            (node 0 x r t₂ d m s)))

        -- Under a 0 the high half is.
        pub zero_halves : HalvesIn t₁ k x 0
        zero_halves =
            halves x 0
            (λ m s.
            let b = rest-built m s in
            record {
              sound = b.sound;
              column = omega (arith, p.column);
              first = b.number;
              second = constant-refers (table t₁) t₁.count (k + 1) 0 (lit< tt);
            })

        pub zero_made : (o % 2 ≡ 1 → ⊥) → z % 2 ≡ 1 → (t₂ : TableMut) (r : Option ℕ) → ((m : ℕ) → k + suc m ≡ t₁.columns → MadeIn t₁ t₂ k (suc m) (node_fn (table t₁) k m x 0) r) →
            CubePromise t t₂ k o z r
        zero_made i j t₂ r d =
            some_left t₂ r
            (λ m s.
            subst⁻¹ (λ F. MadeIn t t₂ k (suc m) F r) (under_zero m o z i j)
            (halves_node t.columns t t₁ t₁ t₂ k m (cube_of m (o / 2) (z / 2)) (constant m false) x 0 r (rest-built m s)
            (none-built _ t₁ k m (rest-built m s).sound s) (node x 0 r t₂ d m s)))
