-- Stores of lists in a room: at places apart, again at the same place, past the end, and what is read after them.
use mathlib.Core.Path.{◌≡◌, refl, sym, ap, ◌∙◌}
use mathlib.Core.List.{List, [], ◌∷◌}
use Prim.Native.Nat.{ℕ, zero, suc, ◌+◌, ◌<◌, ◌≤◌}
use native.Mathlib.Omega.{arith}
use lib.ListN.{length, get_or, set, length-set}
use lib.Seq.{sets, set_comm, set-set, set_out, get_or-set_same, get_or-set_other}

-- A store before others may come after them.
set_before : (s : List ℕ) (i : ℕ) (x : ℕ) (j : ℕ) (ys : List ℕ) → i < j → set (sets s j ys) i x ≡ sets (set s i x) j ys
set_before s i x j [] h = refl
set_before s i x j (y ∷ ys) h =
    set_before (set s j y) i x (suc j) ys (omega arith) ∙ ap (λ t. sets t (suc j) ys) (set_comm s j i y x (λ e. omega arith))

-- Stores at places apart may change over.
pub sets_apart : (s : List ℕ) (i : ℕ) (xs : List ℕ) (j : ℕ) (ys : List ℕ) → i + length xs ≤ j → sets (sets s i xs) j ys ≡ sets (sets s j ys) i xs
sets_apart s i [] j ys h = refl
sets_apart s i (x ∷ xs) j ys h =
    sets_apart (set s i x) (suc i) xs j ys (omega arith) ∙
    ap (λ t. sets t (suc i) xs) (sym (set_before s i x j ys (omega arith)))

-- What is stored again changes nothing.
pub sets_again : (s : List ℕ) (i : ℕ) (xs : List ℕ) → sets (sets s i xs) i xs ≡ sets s i xs
sets_again s i [] = refl
sets_again s i (x ∷ xs) =
    ap (λ t. sets t (suc i) xs) (set_before (set s i x) i x (suc i) xs (omega arith)) ∙
    ap (λ t. sets (sets t (suc i) xs) (suc i) xs) (set-set s i x x) ∙
    sets_again (set s i x) (suc i) xs

-- Nothing is stored past the end, and nothing of no list.
pub sets_out : (s : List ℕ) (i : ℕ) (xs : List ℕ) → (0 < length xs → length s ≤ i) → sets s i xs ≡ s
sets_out s i [] h = refl
sets_out s i (x ∷ xs) h =
    let out : length s ≤ i = h (omega arith) in
    sets_out (set s i x) (suc i) xs (λ p. omega (arith, length-set s i x)) ∙ set_out s i x out

-- What stands before the place is kept, and from the place on stands what was stored.
get_d_before : (s : List ℕ) (i : ℕ) (xs : List ℕ) (j : ℕ) → j < i → get_or (sets s i xs) j 0 ≡ get_or s j 0
get_d_before s i [] j h = refl
get_d_before s i (x ∷ xs) j h =
    get_d_before (set s i x) (suc i) xs j (omega arith) ∙ get_or-set_other s i j x 0 (λ e. omega arith)

pub get_d_stored : (s : List ℕ) (i : ℕ) (xs : List ℕ) (j : ℕ) → j < length xs → i + j < length s → get_or (sets s i xs) (i + j) 0 ≡ get_or xs j 0
get_d_stored s i [] j h u = let z : ⊥ = omega arith in absurd z
get_d_stored s i (x ∷ xs) zero h u =
    let e : i + 0 ≡ i = omega arith in
    ap (λ k. get_or (sets (set s i x) (suc i) xs) k 0) e ∙
    get_d_before (set s i x) (suc i) xs i (omega arith) ∙
    get_or-set_same s i x 0 (omega arith)
get_d_stored s i (x ∷ xs) (suc j) h u =
    let e : i + suc j ≡ suc i + j = omega arith in
    ap (λ k. get_or (sets (set s i x) (suc i) xs) k 0) e ∙
    get_d_stored (set s i x) (suc i) xs j (omega arith) (omega (arith, length-set s i x))
