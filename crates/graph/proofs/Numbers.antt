-- Numbers and their functions: the halves of a reference, constants, what a table's later records do not change, and
-- that equal numbers mean equal functions, and the reverse.
use mathlib.Core.Path.{◌≡◌, refl, sym, ap, ◌∙◌, subst, subst⁻¹}
use mathlib.Core.Bool.{Bool, true, false}
use mathlib.Core.Logic.{◌⊎◌, inl, inr, ⊎_elim, ◌↔◌}
use Prim.Native.Nat.{ℕ, zero, suc, ◌+◌, ◌<◌}
use native.Mathlib.Omega.{arith}
use lib.Dec.{eqb}
use borrow.Author.Tests.{eqb-true, eqb-false}
use Rattle.rule.specs.Func.{constant}
use Rattle.rule.proofs.Bools.{which}
use Rattle.graph.specs.Table.{Table, half_of, fn_of, refers, good_table}
use Rattle.graph.proofs.Tests.{InUse, refers-is, refers_wider, constant-refers, record_refers, half-constant, half_other, half-low, half_high, good-at, IsRecord, record_is, number-missing}

-- A number of a record in use of level k.
pub record AtLevel (T : Table) (c : ℕ) (k : ℕ) (x : ℕ) : Type 0 where
  pub place : ℕ
  pub number : x ≡ place + 2
  pub used : place < c
  pub level : T.level place ≡ k

-- A reference at column k is its own half there, a reference at the next column too; or it is a record of level k.
pub record Idle (T : Table) (c : ℕ) (k : ℕ) (x : ℕ) : Type 0 where
  pub half : (d : Bool) → half_of T k d x ≡ x
  pub next : refers T c (k + 1) x ≡ true

pub idle_or_at : (T : Table) (c : ℕ) (k : ℕ) (x : ℕ) → refers T c k x ≡ true → Idle T c k x ⊎ AtLevel T c k x
idle_or_at T c k x r = ⊎_elim of_constant of_record (refers-is T c k x r)
  where
    of_constant : x < 2 → Idle T c k x ⊎ AtLevel T c k x
    of_constant h = inl (record { half = λ d. half-constant T k d x h; next = constant-refers T c (k + 1) x h })

    by_level : (u : InUse T c k x) → (eqb (T.level u.place) k ≡ true) ⊎ (eqb (T.level u.place) k ≡ false) → Idle T c k x ⊎ AtLevel T c k x
    by_level u (inl e) = inr (record { place = u.place; number = u.number; used = u.used; level = eqb-true (T.level u.place) k e })
    by_level u (inr e) =
        let other = eqb-false (T.level u.place) k e in
        inl
        (record {
          half = λ d. ap (half_of T k d) u.number ∙ half_other T k d u.place other ∙ sym u.number;
          next =
              subst⁻¹ (λ y. refers T c (k + 1) y ≡ true) u.number
              (record_refers T c (k + 1) u.place u.used (omega (arith, u.deep, other)));
        })

    of_record : InUse T c k x → Idle T c k x ⊎ AtLevel T c k x
    of_record u = by_level u (which (eqb (T.level u.place) k))

-- The halves of a record of the column.
pub low_half : (T : Table) (c : ℕ) (k : ℕ) (x : ℕ) (a : AtLevel T c k x) → half_of T k false x ≡ T.low a.place
low_half T c k x a = ap (half_of T k false) a.number ∙ half-low T k a.place a.level

pub high_half : (T : Table) (c : ℕ) (k : ℕ) (x : ℕ) (a : AtLevel T c k x) → half_of T k true x ≡ T.high a.place
high_half T c k x a = ap (half_of T k true) a.number ∙ half_high T k a.place a.level

-- The halves of a reference are references at the next column.
pub half-refers : (n : ℕ) (T : Table) (c : ℕ) (k : ℕ) (d : Bool) (x : ℕ) → good_table n T c ≡ true → refers T c k x ≡ true → refers T c (k + 1) (half_of T k d x) ≡ true
half-refers n T c k d x g r = ⊎_elim idle (at_level d) (idle_or_at T c k x r)
  where
    idle : Idle T c k x → refers T c (k + 1) (half_of T k d x) ≡ true
    idle h = subst⁻¹ (λ y. refers T c (k + 1) y ≡ true) (h.half d) h.next

    at_level : (b : Bool) → AtLevel T c k x → refers T c (k + 1) (half_of T k b x) ≡ true
    at_level false a =
        subst⁻¹ (λ y. refers T c (k + 1) y ≡ true) (low_half T c k x a)
        (refers_wider T a.place c (T.level a.place + 1) (k + 1) (T.low a.place) (omega (arith, a.used)) (omega (arith, a.level)) (good-at n T c g a.place a.used).low)
    at_level true a =
        subst⁻¹ (λ y. refers T c (k + 1) y ≡ true) (high_half T c k x a)
        (refers_wider T a.place c (T.level a.place + 1) (k + 1) (T.high a.place) (omega (arith, a.used)) (omega (arith, a.level)) (good-at n T c g a.place a.used).high)

-- At the last column only constants are left.
pub end_constant : (n : ℕ) (T : Table) (c : ℕ) (x : ℕ) → good_table n T c ≡ true → refers T c n x ≡ true → x < 2
end_constant n T c x g r =
    ⊎_elim (λ h. h) (λ u. let z : ⊥ = omega (arith, u.deep, (good-at n T c g u.place u.used).level) in absurd z) (refers-is T c n x r)

-- The functions of the constants.
pub fn_zero : (T : Table) (k : ℕ) (m : ℕ) → fn_of T k m 0 ≡ constant m false
unfolding fn_of constant
fn_zero T k zero = refl
fn_zero T k (suc m) =
    λ i. (
      (ap (fn_of T (k + 1) m) (half-constant T k false 0 (omega arith)) ∙ fn_zero T (k + 1) m) i,
      (ap (fn_of T (k + 1) m) (half-constant T k true 0 (omega arith)) ∙ fn_zero T (k + 1) m) i,
    )

pub fn_one : (T : Table) (k : ℕ) (m : ℕ) → fn_of T k m 1 ≡ constant m true
unfolding fn_of constant
fn_one T k zero = refl
fn_one T k (suc m) =
    λ i. (
      (ap (fn_of T (k + 1) m) (half-constant T k false 1 (omega arith)) ∙ fn_one T (k + 1) m) i,
      (ap (fn_of T (k + 1) m) (half-constant T k true 1 (omega arith)) ∙ fn_one T (k + 1) m) i,
    )

-- Equal functions have equal halves.
pub halves_0 : (T : Table) (k : ℕ) (m : ℕ) (x : ℕ) (y : ℕ) → fn_of T k (suc m) x ≡ fn_of T k (suc m) y → fn_of T (k + 1) m (half_of T k false x) ≡ fn_of T (k + 1) m (half_of T k false y)
unfolding fn_of
halves_0 T k m x y e = λ i. (e i).0

pub halves_1 : (T : Table) (k : ℕ) (m : ℕ) (x : ℕ) (y : ℕ) → fn_of T k (suc m) x ≡ fn_of T k (suc m) y → fn_of T (k + 1) m (half_of T k true x) ≡ fn_of T (k + 1) m (half_of T k true y)
unfolding fn_of
halves_1 T k m x y e = λ i. (e i).1

-- A record of the column is not its own half, nor is it any other idle number: its low and high numbers differ.
not_idle : (n : ℕ) (T : Table) (c : ℕ) (k : ℕ) (x : ℕ) (y : ℕ) → good_table n T c ≡ true → AtLevel T c k x → half_of T k false x ≡ y → half_of T k true x ≡ y → ⊥
not_idle n T c k x y g a e0 e1 =
    (good-at n T c g a.place a.used).differ (sym (low_half T c k x a) ∙ e0 ∙ sym e1 ∙ high_half T c k x a)

-- No two records are equal.
one_record : (n : ℕ) (T : Table) (c : ℕ) (i : ℕ) (j : ℕ) → good_table n T c ≡ true → i < c → i < j → j < c → IsRecord T i (T.level j) (T.low j) (T.high j) → ⊥
one_record n T c i j g u h w r =
    number-missing T j (T.level j) (T.low j) (T.high j) (good-at n T c g j w).new i h (record_is T i (T.level j) (T.low j) (T.high j) r)

same_place : (n : ℕ) (T : Table) (c : ℕ) (i : ℕ) (j : ℕ) → good_table n T c ≡ true → i < c → j < c → IsRecord T i (T.level j) (T.low j) (T.high j) → i ≡ j
same_place n T c i j g u w r =
    let not_before : i < j → ⊥ = λ h. one_record n T c i j g u h w r in
    let not_after : j < i → ⊥ = λ h. one_record n T c j i g w h u (record { level = sym r.level; low = sym r.low; high = sym r.high }) in
    neither i j not_before not_after
  where
    neither : (a : ℕ) (b : ℕ) → (a < b → ⊥) → (b < a → ⊥) → a ≡ b
    neither a b p q = omega arith

-- Two references with equal halves at a column are equal.
pub equal_halves : (n : ℕ) (T : Table) (c : ℕ) (k : ℕ) (x : ℕ) (y : ℕ) → good_table n T c ≡ true → refers T c k x ≡ true → refers T c k y ≡ true →
    half_of T k false x ≡ half_of T k false y → half_of T k true x ≡ half_of T k true y → x ≡ y
equal_halves n T c k x y g rx ry e0 e1 = go (idle_or_at T c k x rx) (idle_or_at T c k y ry)
  where
    go : Idle T c k x ⊎ AtLevel T c k x → Idle T c k y ⊎ AtLevel T c k y → x ≡ y
    go (inl a) (inl b) = sym (a.half false) ∙ e0 ∙ b.half false
    go (inl a) (inr b) = absurd (not_idle n T c k y x g b (sym e0 ∙ a.half false) (sym e1 ∙ a.half true))
    go (inr a) (inl b) = absurd (not_idle n T c k x y g a (e0 ∙ b.half false) (e1 ∙ b.half true))
    go (inr a) (inr b) =
        a.number ∙
        ap (λ i. i + 2)
        (same_place n T c a.place b.place g a.used b.used
        (record {
          level = a.level ∙ sym b.level;
          low = sym (low_half T c k x a) ∙ e0 ∙ low_half T c k y b;
          high = sym (high_half T c k x a) ∙ e1 ∙ high_half T c k y b;
        })) ∙
        sym b.number

-- Two constants that are both 1 or both not are equal.
same-constant : (x : ℕ) (y : ℕ) → x < 2 → y < 2 → eqb x 1 ≡ eqb y 1 → x ≡ y
same-constant x y hx hy e = go (which (eqb x 1))
  where
    go : (eqb x 1 ≡ true) ⊎ (eqb x 1 ≡ false) → x ≡ y
    go (inl t) = eqb-true x 1 t ∙ sym (eqb-true y 1 (sym e ∙ t))
    go (inr f) = let a = eqb-false x 1 f in let b = eqb-false y 1 (sym e ∙ f) in omega arith

-- Equal functions mean equal numbers.
pub equal_numbers : (n : ℕ) (T : Table) (c : ℕ) → good_table n T c ≡ true → (m : ℕ) (k : ℕ) (x : ℕ) (y : ℕ) → k + m ≡ n →
    refers T c k x ≡ true → refers T c k y ≡ true → fn_of T k m x ≡ fn_of T k m y → x ≡ y
unfolding fn_of
equal_numbers n T c g zero k x y s rx ry e =
    let at_end : k ≡ n = omega arith in
    same-constant x y (end_constant n T c x g (subst (λ v. refers T c v x ≡ true) at_end rx)) (end_constant n T c y g (subst (λ v. refers T c v y ≡ true) at_end ry)) e
equal_numbers n T c g (suc m) k x y s rx ry e =
    equal_halves n T c k x y g rx ry
    (equal_numbers n T c g m (k + 1) (half_of T k false x) (half_of T k false y) (omega arith) (half-refers n T c k false x g rx) (half-refers n T c k false y g ry) (halves_0 T k m x y e))
    (equal_numbers n T c g m (k + 1) (half_of T k true x) (half_of T k true y) (omega arith) (half-refers n T c k true x g rx) (half-refers n T c k true y g ry) (halves_1 T k m x y e))

-- Equal numbers mean equal functions, and the reverse.
pub equal_functions : (n : ℕ) (T : Table) (c : ℕ) (x : ℕ) (y : ℕ) → good_table n T c ≡ true → refers T c 0 x ≡ true → refers T c 0 y ≡ true →
    (x ≡ y) ↔ (fn_of T 0 n x ≡ fn_of T 0 n y)
equal_functions n T c x y g rx ry = (λ e. ap (fn_of T 0 n) e, λ e. equal_numbers n T c g n 0 x y (omega arith) rx ry e)
