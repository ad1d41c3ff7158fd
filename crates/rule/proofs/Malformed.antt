-- The first malformed cube of a list: it is the first, its position is within the list, and it is 0 exactly if every cube is
-- well formed; it is what the library's search finds.
use mathlib.Core.Path.{◌≡◌, refl, ◌∙◌}
use mathlib.Core.Bool.{Bool, true, false, cond, not}
use mathlib.Core.List.{List, [], ◌∷◌}
use Prim.Native.Nat.{ℕ, zero, suc, ◌+◌, ◌<◌, ◌≤◌}
use native.Mathlib.Omega.{arith}
use native.Mathlib.Numerals.{add-one}
use lib.ListN.{length, get_or}
use Rattle.std.specs.List.{position_from}
use Rattle.std.specs.Option.{option_map}
use Rattle.std.specs.Prelude.{Some}
use Rattle.rule.specs.Number.{well_formed, malformed_from, first_malformed}
use Rattle.rule.specs.Refusal.{some_number}
use Rattle.rule.proofs.Delivered.{AllFormed}

-- Every cube of a list is well formed, place by place.
pub formed-at : (m : ℕ) (xs : List ℕ) → AllFormed m xs → (i : ℕ) → i < length xs → well_formed m (get_or xs i 0) ≡ true
unfolding AllFormed
formed-at m [] f i h = let z : ⊥ = omega arith in absurd z
formed-at m (x ∷ xs) f zero h = f.0
formed-at m (x ∷ xs) f (suc i) h = formed-at m xs f.1 i (omega arith)

pub formed_by : (m : ℕ) (xs : List ℕ) → ((i : ℕ) → i < length xs → well_formed m (get_or xs i 0) ≡ true) → AllFormed m xs
unfolding AllFormed
formed_by m [] f = tt
formed_by m (x ∷ xs) f = (f 0 (omega arith), formed_by m xs (λ i h. f (suc i) (omega arith)))

-- The position is 0 exactly if every cube is well formed.
none_from : (m k : ℕ) (xs : List ℕ) → AllFormed m xs → malformed_from m k xs ≡ 0
unfolding malformed_from AllFormed
none_from m k [] f = refl
none_from m k (x ∷ xs) f = rw f.0 (none_from m (k + 1) xs f.1)

pub none_malformed : (m : ℕ) (xs : List ℕ) → AllFormed m xs → first_malformed m xs ≡ 0
unfolding first_malformed
none_malformed m xs f = none_from m 1 xs f

formed-first : (m k x : ℕ) (xs : List ℕ) → 0 < k → malformed_from m k (x ∷ xs) ≡ 0
    → (well_formed m x ≡ true) × (malformed_from m (k + 1) xs ≡ 0)
unfolding malformed_from
formed-first m k x xs h e = go (well_formed m x) refl e
  where
    go : (q : Bool) → well_formed m x ≡ q → cond q (malformed_from m (k + 1) xs) k ≡ 0
        → (well_formed m x ≡ true) × (malformed_from m (k + 1) xs ≡ 0)
    go true f g = (f, g)
    go false f g = let z : ⊥ = omega arith in absurd z

formed-from : (m k : ℕ) (xs : List ℕ) → 0 < k → malformed_from m k xs ≡ 0 → AllFormed m xs
unfolding AllFormed
formed-from m k [] h e = tt
formed-from m k (x ∷ xs) h e = let f = formed-first m k x xs h e in (f.0, formed-from m (k + 1) xs (omega arith) f.1)

pub all-formed : (m : ℕ) (xs : List ℕ) → first_malformed m xs ≡ 0 → AllFormed m xs
unfolding first_malformed
all-formed m xs e = formed-from m 1 xs (omega arith) e

-- It is within the list.
inside-from : (m k : ℕ) (xs : List ℕ) → malformed_from m (k + 1) xs ≤ k + length xs
unfolding malformed_from
inside-from m k [] = omega arith
inside-from m k (x ∷ xs) = go (well_formed m x) (inside-from m (k + 1) xs)
  where
    go : (q : Bool) → malformed_from m (k + 1 + 1) xs ≤ k + 1 + length xs → cond q (malformed_from m (k + 1 + 1) xs) (k + 1) ≤ k + suc (length xs)
    go true h = omega arith
    go false h = omega arith

pub malformed_inside : (m : ℕ) (xs : List ℕ) → first_malformed m xs ≤ length xs
unfolding first_malformed
malformed_inside m xs = omega (arith, inside-from m 0 xs)

-- A malformed cube after well-formed ones is the first.
first-from : (m k : ℕ) (xs : List ℕ) (j : ℕ) → j < length xs → well_formed m (get_or xs j 0) ≡ false
    → ((i : ℕ) → i < j → well_formed m (get_or xs i 0) ≡ true) → malformed_from m k xs ≡ k + j
unfolding malformed_from
first-from m k [] j h e f = let z : ⊥ = omega arith in absurd z
first-from m k (x ∷ xs) zero h e f = rw e (omega arith)
first-from m k (x ∷ xs) (suc j) h e f =
    let p : k + 1 + j ≡ k + suc j = omega arith in
    rw (f 0 (omega arith)) (first-from m (k + 1) xs j (omega arith) e (λ i l. f (suc i) (omega arith)) ∙ p)

pub is-first_malformed : (m : ℕ) (xs : List ℕ) (j : ℕ) → j < length xs → well_formed m (get_or xs j 0) ≡ false
    → ((i : ℕ) → i < j → well_formed m (get_or xs i 0) ≡ true) → first_malformed m xs ≡ j + 1
unfolding first_malformed
is-first_malformed m xs j h e f = let p : 1 + j ≡ j + 1 = omega arith in first-from m 1 xs j h e f ∙ p

-- It is one more than the first place, from 0, whose cube is not well formed.
counted-from : (m k : ℕ) (xs : List ℕ) → option_map (λ i. i + 1) (position_from (λ x. not (well_formed m x)) k xs) ≡ some_number (malformed_from m (k + 1) xs)
unfolding malformed_from
counted-from m k [] = refl
counted-from m k (x ∷ xs) = go (well_formed m x) (counted-from m (k + 1) xs)
  where
    go : (q : Bool)
        → option_map (λ i. i + 1) (position_from (λ y. not (well_formed m y)) (k + 1) xs) ≡ some_number (malformed_from m (k + 1 + 1) xs)
        → option_map (λ i. i + 1) (cond (not q) (Some k) (position_from (λ y. not (well_formed m y)) (k + 1) xs))
        ≡ some_number (cond q (malformed_from m (k + 1 + 1) xs) (k + 1))
    go true e = e
    go false e = rw (add-one k) refl

pub counted : (m : ℕ) (xs : List ℕ) → option_map (λ i. i + 1) (position_from (λ x. not (well_formed m x)) 0 xs) ≡ some_number (first_malformed m xs)
unfolding first_malformed
counted m xs = counted-from m 0 xs
