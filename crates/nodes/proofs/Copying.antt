-- Copying a row over another record by record, from the first on, as many as both have, gives the one over the other.
use mathlib.Core.Path.{◌≡◌, refl, sym, ap, ap₂, ◌∙◌}
use mathlib.Core.List.{List, [], ◌∷◌, ◌++◌, append-nil}
use Prim.Native.Nat.{ℕ, zero, suc, ◌+◌, ◌≤◌, ◌<◌, min}
use native.Mathlib.Nat.{le_of_suc-le-suc, not-suc-le-zero, zero-min, min-zero, suc-min-suc, min-le_left, min-le_right, le_of_eq}
use native.Mathlib.Omega.{arith}
use lib.ListN.{length, take, drop, set, get_or, length-set, drop_of_length-le}
use lib.Seq.{take-nil, take_all, take-append_seam, drop-nil, length-take-le}
use Rattle.nodes.specs.Row.{over}

-- The second row after the first n records of the first were copied to it.
unfoldable pub copied : {X : Type 0} → X → List X → List X → ℕ → List X
copied d xs ys zero = ys
copied d xs ys (suc n) = set (copied d xs ys n) n (get_or xs n d)

pub copied_none : {X : Type 0} (d : X) (xs ys : List X) → copied d xs ys 0 ≡ ys
unfolding copied
copied_none d xs ys = refl

pub copied_more : {X : Type 0} (d : X) (xs ys : List X) (i : ℕ) → set (copied d xs ys i) i (get_or xs i d) ≡ copied d xs ys (i + 1)
unfolding copied
copied_more d xs ys i = ap (copied d xs ys) (next i)
  where
    next : (k : ℕ) → suc k ≡ k + 1
    next k = omega arith

pub length_copied : {X : Type 0} (d : X) (xs ys : List X) (n : ℕ) → length (copied d xs ys n) ≡ length ys
unfolding copied
length_copied d xs ys zero = refl
length_copied d xs ys (suc n) = length-set (copied d xs ys n) n (get_or xs n d) ∙ length_copied d xs ys n

-- One more record taken from the first row.
take_more : {X : Type 0} (d : X) (xs ys : List X) (n : ℕ) → n < length xs → n < length ys → set (take n xs ++ drop n ys) n (get_or xs n d) ≡ take (suc n) xs ++ drop (suc n) ys
take_more d [] ys n l k = absurd (not-suc-le-zero l)
take_more d (x ∷ xs) [] n l k = absurd (not-suc-le-zero k)
take_more d (x ∷ xs) (y ∷ ys) zero l k = refl
take_more d (x ∷ xs) (y ∷ ys) (suc n) l k = ap {B = List _} (λ r. x ∷ r) (take_more d xs ys n (le_of_suc-le-suc l) (le_of_suc-le-suc k))

copied_is : {X : Type 0} (d : X) (xs ys : List X) (n : ℕ) → n ≤ length xs → n ≤ length ys → copied d xs ys n ≡ take n xs ++ drop n ys
unfolding copied
copied_is d xs ys zero l k = refl
copied_is d xs ys (suc n) l k = ap (λ (zs : List _). set zs n (get_or xs n d)) (copied_is d xs ys n (below n (length xs) l) (below n (length ys) k)) ∙ take_more d xs ys n l k
  where
    below : (i m : ℕ) → suc i ≤ m → i ≤ m
    below i m h = omega arith

-- As many as both have.
pub whole : {X : Type 0} (xs ys : List X) → take (min (length xs) (length ys)) xs ++ drop (min (length xs) (length ys)) ys ≡ over xs ys
unfolding over
whole {X} [] ys = ap (λ (k : ℕ). take {A = X} k [] ++ drop k ys) (zero-min (length ys)) ∙ sym (ap (λ (zs : List X). zs ++ ys) (take-nil (length ys)))
whole {X} (x ∷ xs) [] = ap (λ (k : ℕ). take k (x ∷ xs) ++ drop {A = X} k []) (min-zero (suc (length xs)))
whole {X} (x ∷ xs) (y ∷ ys) = ap (λ (k : ℕ). take k (x ∷ xs) ++ drop k (y ∷ ys)) (suc-min-suc (length xs) (length ys)) ∙ ap {B = List X} (λ r. x ∷ r) (whole xs ys)

pub copied_over : {X : Type 0} (d : X) (xs ys : List X) → copied d xs ys (min (length xs) (length ys)) ≡ over xs ys
copied_over d xs ys = copied_is d xs ys (min (length xs) (length ys)) (min-le_left (length xs) (length ys)) (min-le_right (length xs) (length ys)) ∙ whole xs ys

-- The one over the other has the other's length.
pub length-over : {X : Type 0} (d : X) (xs ys : List X) → length (over xs ys) ≡ length ys
length-over d xs ys = ap length (sym (copied_over d xs ys)) ∙ length_copied d xs ys (min (length xs) (length ys))

-- Copying over the first part of a row is copying over the row.
pub copied_part : {X : Type 0} (d : X) (xs ys : List X) (n : ℕ) → n ≤ length xs → n ≤ length ys → copied d xs (take n ys) n ++ drop n ys ≡ copied d xs ys n
copied_part {X} d xs ys n l k =
    let long : length (take n ys) ≡ n = length-take-le n ys k in
    ap (λ (us : List X). us ++ drop n ys)
    (copied_is d xs (take n ys) n l (le_of_eq (sym long)) ∙ ap (λ (us : List X). take n xs ++ us) (drop_of_length-le (take n ys) (le_of_eq long)) ∙ append-nil (take n xs)) ∙
    sym (copied_is d xs ys n l k)

-- Every record of a row over one of the same length.
pub copied_all : {X : Type 0} (d : X) (xs ys : List X) (n : ℕ) → length xs ≡ n → length ys ≡ n → copied d xs ys n ≡ xs
copied_all {X} d xs ys n e k =
    copied_is d xs ys n (le_of_eq (sym e)) (le_of_eq (sym k)) ∙ ap₂ (λ (us : List X) (vs : List X). us ++ vs) (take_all n xs (le_of_eq e)) (drop_of_length-le ys (le_of_eq k)) ∙ append-nil xs

-- The first records of a row copied over a longer one are the row.
pub over_front : {X : Type 0} (xs ys : List X) → length xs ≤ length ys → take (length xs) (over xs ys) ≡ xs
unfolding over
over_front {X} xs ys l = ap (λ (us : List X). take (length xs) (us ++ drop (length xs) ys)) (take_all (length ys) xs l) ∙ take-append_seam xs (drop (length xs) ys)

-- A row over one that is no longer is its first records.
pub over-short : {X : Type 0} (ts xs : List X) → length xs ≤ length ts → over ts xs ≡ take (length xs) ts
unfolding over
over-short {X} ts xs l = ap (λ (us : List X). take (length xs) ts ++ us) (drop_of_length-le xs l) ∙ append-nil (take (length xs) ts)

-- Copying out and back changes nothing, at any length.
pub over_back : {X : Type 0} (xs zs : List X) → over (over xs zs) xs ≡ xs
unfolding over
over_back [] zs = drop-nil (length (take (length zs) [] ++ zs))
over_back (x ∷ xs) [] = refl
over_back (x ∷ xs) (z ∷ zs) = ap {B = List _} (λ r. x ∷ r) (over_back xs zs)
