-- Laws of functions by their values at points: each operation and each test says at a point what its name says.
use mathlib.Core.Path.{◌≡◌, refl, sym, ap, ◌∙◌}
use mathlib.Core.Bool.{Bool, true, false, not, ◌&&◌, ◌||◌}
use mathlib.Core.List.{[], ◌∷◌}
use mathlib.Core.Logic.{◌⊎◌, inl, inr}
use Prim.Native.Nat.{ℕ, zero, suc}
use lib.ListN.{length}
use Rattle.rule.specs.Func.{Fn, half, constant, joined, but_not, both, either, less, always, within}
use Rattle.rule.specs.Point.{Pt, lead, rest, at}
use Rattle.rule.proofs.Bools.{beq_true, beq_false, and_left, and_right, and_intro, and_false_right, not_is_true, implies, imply_table, not_itself, must_be_true, must_be_false, clash, which}

half_twin : {A : Type 0} (d : Bool) (f : A) → half d (f, f) ≡ f
unfolding half
half_twin false f = refl
half_twin true f = refl

half_pair : {A B C : Type 0} (op : A → B → C) (d : Bool) (f : A × A) (g : B × B) → half d (op f.0 g.0, op f.1 g.1) ≡ op (half d f) (half d g)
unfolding half
half_pair op false f g = refl
half_pair op true f g = refl

-- Values at a point.
pub at_constant : (m : ℕ) (b : Bool) (p : Pt) → at m (constant m b) p ≡ b
unfolding at constant
at_constant zero b p = refl
at_constant (suc m) b p = ap (λ f. at m f (rest p)) (half_twin (lead p) (constant m b)) ∙ at_constant m b (rest p)

pub at_joined : (op : Bool → Bool → Bool) (m : ℕ) (f : Fn m) (g : Fn m) (p : Pt) → at m (joined op m f g) p ≡ op (at m f p) (at m g p)
unfolding at joined
at_joined op zero f g p = refl
at_joined op (suc m) f g p =
    ap (λ h. at m h (rest p)) (half_pair (joined op m) (lead p) f g) ∙ at_joined op m (half (lead p) f) (half (lead p) g) (rest p)

pub at_both : (m : ℕ) (f : Fn m) (g : Fn m) (p : Pt) → at m (both m f g) p ≡ (at m f p && at m g p)
unfolding both
at_both m f g p = at_joined ◌&&◌ m f g p

pub at-either : (m : ℕ) (f : Fn m) (g : Fn m) (p : Pt) → at m (either m f g) p ≡ (at m f p || at m g p)
unfolding either
at-either m f g p = at_joined ◌||◌ m f g p

pub at_less : (m : ℕ) (f : Fn m) (g : Fn m) (p : Pt) → at m (less m f g) p ≡ (at m f p && not (at m g p))
unfolding less but_not
at_less m f g p = at_joined but_not m f g p

-- A function at a point of which the first digit is known.
pub at-digit : (m : ℕ) (f : Fn (suc m)) (b : Bool) (p : Pt) → at (suc m) f (b ∷ p) ≡ at m (half b f) p
unfolding at lead rest
at-digit m f b p = refl

-- What is in less, and what is not.
pub in_less : (m : ℕ) (f : Fn m) (g : Fn m) (p : Pt) → at m f p ≡ true → at m g p ≡ false → at m (less m f g) p ≡ true
in_less m f g p a b = at_less m f g p ∙ and_intro (at m f p) (not (at m g p)) a (ap not b)

pub less_in : (m : ℕ) (f : Fn m) (g : Fn m) (p : Pt) → at m (less m f g) p ≡ true → at m f p ≡ true
less_in m f g p e = and_left (at m f p) (not (at m g p)) (sym (at_less m f g p) ∙ e)

pub less-out : (m : ℕ) (f : Fn m) (g : Fn m) (p : Pt) → at m (less m f g) p ≡ true → at m g p ≡ false
less-out m f g p e = not_is_true (at m g p) (and_right (at m f p) (not (at m g p)) (sym (at_less m f g p) ∙ e))

-- What holds for both digits holds for each.
pub each : (P : Bool → Type 0) → P false → P true → (d : Bool) → P d
each P a b false = a
each P a b true = b

-- A function that is always b is b at every point.
pub always-at : (b : Bool) (m : ℕ) (f : Fn m) (p : Pt) → always b m f ≡ true → at m f p ≡ b
unfolding always at half
always-at b zero f p e = beq_true f b e
always-at b (suc m) f p e =
    each (λ d. at m (half d f) (rest p) ≡ b)
    (always-at b m f.0 (rest p) (and_left (always b m f.0) (always b m f.1) e))
    (always-at b m f.1 (rest p) (and_right (always b m f.0) (always b m f.1) e))
    (lead p)

-- A point of m columns at which a function has a value.
pub record Where (m : ℕ) (f : Fn m) (b : Bool) : Type 0 where
  pub point : Pt
  pub whole : length point ≡ m
  pub value : at m f point ≡ b

-- A point of a half is a point of the whole.
pub where_in : (m : ℕ) (f : Fn (suc m)) (b : Bool) (d : Bool) → Where m (half d f) b → Where (suc m) f b
where_in m f b d w =
    record { point = d ∷ w.point; whole = ap suc w.whole; value = at-digit m f d w.point ∙ w.value }

-- A function that is not always b is something else at some point.
pub not_always : (b : Bool) (m : ℕ) (f : Fn m) → always b m f ≡ false → Where m f (not b)
unfolding always at half
not_always b zero f e = record { point = []; whole = refl; value = beq_false f b e }
not_always b (suc m) f e = go (which (always b m f.0)) (not_always b m f.0) (not_always b m f.1)
  where
    go : (always b m f.0 ≡ true) ⊎ (always b m f.0 ≡ false) → (always b m f.0 ≡ false → Where m f.0 (not b)) → (always b m f.1 ≡ false → Where m f.1 (not b)) → Where (suc m) f (not b)
    go (inl t) h0 h1 = where_in m f (not b) true (h1 (and_false_right (always b m f.0) (always b m f.1) t e))
    go (inr n) h0 h1 = where_in m f (not b) false (h0 n)

pub at-always : (b : Bool) (m : ℕ) (f : Fn m) → ((p : Pt) → length p ≡ m → at m f p ≡ b) → always b m f ≡ true
at-always b m f h = must_be_true (always b m f) (λ e. let w = not_always b m f e in not_itself b (sym (h w.point w.whole) ∙ w.value))

-- A function within another is 1 only where the other is; if it is not within, some point shows it.
pub within-at : (m : ℕ) (f : Fn m) (g : Fn m) (p : Pt) → within m f g ≡ true → at m f p ≡ true → at m g p ≡ true
unfolding within at half
within-at zero f g p e t = implies f g e t
within-at (suc m) f g p e t =
    each (λ d. at m (half d f) (rest p) ≡ true → at m (half d g) (rest p) ≡ true)
    (within-at m f.0 g.0 (rest p) (and_left (within m f.0 g.0) (within m f.1 g.1) e))
    (within-at m f.1 g.1 (rest p) (and_right (within m f.0 g.0) (within m f.1 g.1) e))
    (lead p)
    t

pub within_false : (m : ℕ) (f : Fn m) (g : Fn m) (p : Pt) → within m f g ≡ true → at m g p ≡ false → at m f p ≡ false
within_false m f g p e n = must_be_false (at m f p) (λ t. clash (within-at m f g p e t) n)

-- A test by halves: the first less the second is 0 everywhere exactly if the first is within the second.
pub within-less : (m : ℕ) (f : Fn m) (g : Fn m) → within m f g ≡ always false m (less m f g)
unfolding within always less joined but_not
within-less zero f g = imply_table f g
within-less (suc m) f g = ap (λ b. b && within m f.1 g.1) (within-less m f.0 g.0) ∙ ap (λ b. always false m (less m f.0 g.0) && b) (within-less m f.1 g.1)

pub not_within : (m : ℕ) (f : Fn m) (g : Fn m) → within m f g ≡ false → Where m (less m f g) true
not_within m f g e = not_always false m (less m f g) (sym (within-less m f g) ∙ e)

pub at-within : (m : ℕ) (f : Fn m) (g : Fn m) → ((p : Pt) → length p ≡ m → at m f p ≡ true → at m g p ≡ true) → within m f g ≡ true
at-within m f g h =
    must_be_true (within m f g)
    (λ e.
    let w = not_within m f g e in
    clash (h w.point w.whole (less_in m f g w.point w.value)) (less-out m f g w.point w.value))

-- Two functions with the same values are equal.
pub ext : (m : ℕ) (f : Fn m) (g : Fn m) → ((p : Pt) → length p ≡ m → at m f p ≡ at m g p) → f ≡ g
unfolding at half
ext zero f g h = h [] refl
ext (suc m) f g h =
    λ i. (
      ext m f.0 g.0 (λ p w. sym (at-digit m f false p) ∙ h (false ∷ p) (ap suc w) ∙ at-digit m g false p) i,
      ext m f.1 g.1 (λ p w. sym (at-digit m f true p) ∙ h (true ∷ p) (ap suc w) ∙ at-digit m g true p) i,
    )
