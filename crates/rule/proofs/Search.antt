-- The two searches of the verdict: the first number that passes a test, and the smallest point at which a function is 1.
-- Each finds what its name says, finds nothing only where there is nothing, and nothing else fits what it says.
use mathlib.Core.Path.{◌≡◌, refl, sym, ap, subst, ◌∙◌}
use mathlib.Core.Bool.{Bool, true, false, cond, true≢false, false≢true}
use mathlib.Core.List.{[], ◌∷◌}
use mathlib.Core.Option.{Option, some, none}
use Prim.Native.Nat.{ℕ, zero, suc, ◌+◌, ◌^◌, ◌<◌, ◌≤◌}
use native.Mathlib.Nat.{le_antisymm}
use native.Mathlib.Omega.{arith}
use lib.ListN.{length}
use Rattle.rule.specs.Func.{Fn, half}
use Rattle.rule.specs.Point.{Pt, lead, rest, at, bit, reading, or_else, after, smallest}
use Rattle.rule.specs.Verdict.{next, first, found, is_found}
use Rattle.rule.proofs.Bools.{clash}
use Rattle.rule.proofs.Func.{each}
use Rattle.rule.proofs.Points.{reading_below, reading_tells}

-- What a search found, and that it found nothing, by the test whether it found.
pub found_some : {A : Type 0} (o : Option A) (d : A) → is_found o ≡ true → o ≡ some (found o d)
unfolding is_found found
found_some (some x) d e = refl
found_some none d e = absurd (false≢true e)

pub not_found : {A : Type 0} (o : Option A) → is_found o ≡ false → o ≡ none
unfolding is_found
not_found (some x) e = absurd (true≢false e)
not_found none e = refl

-- The first number below n that passes a test: it passes, and none before it does.
pub record FirstAt (test : ℕ → Bool) (n i : ℕ) : Type 0 where
  pub place : i < n
  pub passes : test i ≡ true
  pub before : (j : ℕ) → j < i → test j ≡ false

-- What a search says by its answer: a number, or that none below n passes.
unfoldable FirstOf : (ℕ → Bool) → ℕ → Option ℕ → Type 0
FirstOf test n (some i) = FirstAt test n i
FirstOf test n none = (j : ℕ) → j < n → test j ≡ false

-- What fails at 0 and at the successors of the numbers below n fails below suc n.
from_zero : (test : ℕ → Bool) (n : ℕ) → test 0 ≡ false → ((j : ℕ) → j < n → test (suc j) ≡ false) → (j : ℕ) → j < suc n → test j ≡ false
from_zero test n e h zero l = e
from_zero test n e h (suc j) l = h j (omega arith)

first_step : (test : ℕ → Bool) (n : ℕ) (b : Bool) → test 0 ≡ b → (o : Option ℕ) → FirstOf (λ k. test (suc k)) n o → FirstOf test (suc n) (cond b (some 0) (next o))
unfolding FirstOf next
first_step test n true e o h = record { place = omega arith; passes = e; before = λ j l. let z : ⊥ = omega arith in absurd z }
first_step test n false e (some k) h =
    record { place = omega (arith, h.place); passes = h.passes; before = from_zero test k e h.before }
first_step test n false e none h = from_zero test n e h

first-is : (test : ℕ → Bool) (n : ℕ) → FirstOf test n (first test n)
unfolding FirstOf first
first-is test zero = λ j l. let z : ⊥ = omega arith in absurd z
first-is test (suc n) = first_step test n (test 0) refl (first (λ k. test (suc k)) n) (first-is (λ k. test (suc k)) n)

pub first_some : (test : ℕ → Bool) (n : ℕ) {i : ℕ} → first test n ≡ some i → FirstAt test n i
unfolding FirstOf
first_some test n e = subst (FirstOf test n) e (first-is test n)

pub first-none : (test : ℕ → Bool) (n : ℕ) → first test n ≡ none → (j : ℕ) → j < n → test j ≡ false
unfolding FirstOf
first-none test n e = subst (FirstOf test n) e (first-is test n)

-- Two first numbers are one: neither is before the other.
same_first : {test : ℕ → Bool} {n i j : ℕ} → FirstAt test n i → FirstAt test n j → i ≡ j
same_first {test} {n} {i} {j} a b =
    let p : i < j → ⊥ = λ l. clash a.passes (b.before i l) in
    let q : j < i → ⊥ = λ l. clash b.passes (a.before j l) in
    omega arith

pub is-first : {test : ℕ → Bool} {n i : ℕ} → FirstAt test n i → first test n ≡ some i
unfolding FirstOf
is-first {test} {n} {i} a = go (first test n) (first-is test n)
  where
    go : (o : Option ℕ) → FirstOf test n o → o ≡ some i
    go (some j) b = ap some (same_first b a)
    go none h = clash a.passes (h i a.place)

pub no_first : (test : ℕ → Bool) (n : ℕ) → ((j : ℕ) → j < n → test j ≡ false) → first test n ≡ none
unfolding FirstOf
no_first test n h = go (first test n) (first-is test n)
  where
    go : (o : Option ℕ) → FirstOf test n o → o ≡ none
    go (some j) b = clash b.passes (h j b.place)
    go none k = refl

-- The reading of a point of which the first digit is known.
reading_0 : (p : Pt) → reading (false ∷ p) ≡ reading p
unfolding reading bit
reading_0 p = omega arith

reading_1 : (p : Pt) → reading (true ∷ p) ≡ 2 ^ length p + reading p
unfolding reading bit
reading_1 p = omega arith

-- Of two points of as many columns, the one that begins with 0 is the smaller.
zero_first : (p : Pt) (q : Pt) → length p ≡ length q → reading (false ∷ p) < reading (true ∷ q)
zero_first p q e = omega (arith, reading_0 p, reading_1 q, reading_below p, ap (λ n. 2 ^ n) e)

-- The smallest point at which a function is 1: it is 1 there, and at no smaller point.
pub record LeastAt (m : ℕ) (f : Fn m) (p : Pt) : Type 0 where
  pub whole : length p ≡ m
  pub value : at m f p ≡ true
  pub least : (q : Pt) → length q ≡ m → at m f q ≡ true → reading p ≤ reading q

unfoldable LeastOf : (m : ℕ) → Fn m → Option Pt → Type 0
LeastOf m f (some p) = LeastAt m f p
LeastOf m f none = (q : Pt) → at m f q ≡ false

-- The smallest point of a half for 0, or, where that half has none, of the half for 1, is the smallest of the whole.
module _ (m : ℕ) (f : Fn (suc m)) where
  low_least : {p : Pt} → LeastAt m f.0 p → LeastAt (suc m) f (false ∷ p)
  unfolding at lead rest half
  low_least {p} h = record { whole = ap suc h.whole; value = h.value; least = least }
    where
      least : (q : Pt) → length q ≡ suc m → at (suc m) f q ≡ true → reading (false ∷ p) ≤ reading q
      least [] w e = let z : ⊥ = omega arith in absurd z
      least (false ∷ q) w e = omega (arith, reading_0 p, reading_0 q, h.least q (omega arith) e)
      least (true ∷ q) w e = omega (arith, zero_first p q (omega (arith, h.whole)))

  high_least : {p : Pt} → ((q : Pt) → at m f.0 q ≡ false) → LeastAt m f.1 p → LeastAt (suc m) f (true ∷ p)
  unfolding at lead rest half
  high_least {p} n h = record { whole = ap suc h.whole; value = h.value; least = least }
    where
      least : (q : Pt) → length q ≡ suc m → at (suc m) f q ≡ true → reading (true ∷ p) ≤ reading q
      least [] w e = let z : ⊥ = omega arith in absurd z
      least (false ∷ q) w e = clash e (n q)
      least (true ∷ q) w e =
          let l : length q ≡ m = omega arith in
          omega (arith, reading_1 p, reading_1 q, h.least q l e, ap (λ n. 2 ^ n) h.whole, ap (λ n. 2 ^ n) l)

  smallest-step : (o : Option Pt) (o' : Option Pt) → LeastOf m f.0 o → LeastOf m f.1 o' → LeastOf (suc m) f (or_else (after false o) (after true o'))
  unfolding LeastOf or_else after at half
  smallest-step (some p) o' h h' = low_least h
  smallest-step none (some p) h h' = high_least h h'
  smallest-step none none h h' = λ q. each (λ d. at m (half d f) (rest q) ≡ false) (h (rest q)) (h' (rest q)) (lead q)

smallest-is : (m : ℕ) (f : Fn m) → LeastOf m f (smallest m f)
unfolding LeastOf smallest at reading
smallest-is zero true = record { whole = refl; value = refl; least = λ q w e. omega arith }
smallest-is zero false = λ q. refl
smallest-is (suc m) f = smallest-step m f (smallest m f.0) (smallest m f.1) (smallest-is m f.0) (smallest-is m f.1)

pub smallest-some : (m : ℕ) (f : Fn m) {p : Pt} → smallest m f ≡ some p → LeastAt m f p
unfolding LeastOf
smallest-some m f e = subst (LeastOf m f) e (smallest-is m f)

pub smallest-none : (m : ℕ) (f : Fn m) → smallest m f ≡ none → (q : Pt) → at m f q ≡ false
unfolding LeastOf
smallest-none m f e = subst (LeastOf m f) e (smallest-is m f)

-- Two smallest points are one: their readings are equal.
same_least : {m : ℕ} {f : Fn m} {p q : Pt} → LeastAt m f p → LeastAt m f q → p ≡ q
same_least {m} {f} {p} {q} a b =
    reading_tells p q (a.whole ∙ sym b.whole) (le_antisymm (a.least q b.whole b.value) (b.least p a.whole a.value))

pub is-smallest : {m : ℕ} {f : Fn m} {p : Pt} → LeastAt m f p → smallest m f ≡ some p
unfolding LeastOf
is-smallest {m} {f} {p} a = go (smallest m f) (smallest-is m f)
  where
    go : (o : Option Pt) → LeastOf m f o → o ≡ some p
    go (some q) b = ap some (same_least b a)
    go none h = clash a.value (h p)

pub no_smallest : (m : ℕ) (f : Fn m) → ((q : Pt) → length q ≡ m → at m f q ≡ false) → smallest m f ≡ none
unfolding LeastOf
no_smallest m f h = go (smallest m f) (smallest-is m f)
  where
    go : (o : Option Pt) → LeastOf m f o → o ≡ none
    go (some p) b = clash b.value (h p b.whole)
    go none k = refl
