-- The halves of a slice that holds a table of more than six columns: they hold the tables of the function's halves, and when
-- a half comes back from a loan the whole holds the table of the function with that half changed.
use mathlib.Core.Path.{◌≡◌, sym, ap, ap₂, ◌∙◌}
use mathlib.Core.List.{List, [], ◌∷◌, ◌++◌, append-nil}
use Prim.Native.Nat.{ℕ, suc, ◌+◌, ◌-◌, ◌/◌, ◌≤◌}
use native.Mathlib.Omega.{arith}
use lib.ListN.{length, take, drop, set, length-drop, length-append, drop_of_length-le}
use lib.Seq.{length-take-le, take_all, take_at, drop_at}
use Rattle.rule.specs.Func.{Fn}
use Rattle.words.specs.Word.{num, words, size}
use Rattle.words.proofs.Tables.{words-few, words-halves, size_few, size_double, length-words, first_part, last_part}

-- The middle of a slice as long as a table.
pub middle : (k n : ℕ) → 6 ≤ k → n ≡ size (suc k) → n / 2 ≡ size k
middle k n h e = omega (arith, size_double k h)

module _ (k h : ℕ) (xs : List ℕ) (more : 6 ≤ k) (half : h ≡ size k) (long : length xs ≡ size (suc k)) where
  both_long : length xs ≡ h + h
  both_long = omega (arith, size_double k more)

  pub low-length : length (take h xs) ≡ size k
  low-length = let l : h ≤ length xs = omega (arith, both_long) in length-take-le h xs l ∙ half

  pub high-length : length (take (length xs - h) (drop h xs)) ≡ size k
  high-length =
      let l : length xs - h ≤ length (drop h xs) = omega (arith, length-drop h xs) in
      let e : length xs - h ≡ h = omega (arith, both_long) in
      length-take-le (length xs - h) (drop h xs) l ∙ e ∙ half

  pub last-length : length (drop h xs) ≡ size k
  last-length = omega (arith, length-drop h xs, both_long)

  pub back_length : (ys : List ℕ) → length ys ≡ size k → length (ys ++ drop h xs) ≡ size (suc k)
  back_length ys e = omega (arith, length-append ys (drop h xs), length-drop h xs, both_long)

  module _ (f : Fn (suc k)) (e : xs ≡ words (suc k) f) where
    halves : xs ≡ words k f.0 ++ words k f.1
    halves = e ∙ words-halves k f more

    pub low-words : take h xs ≡ words k f.0
    low-words = first_part (words k f.0) (words k f.1) h (length-words k f.0 ∙ sym half) halves

    pub last_words : drop h xs ≡ words k f.1
    last_words = last_part (words k f.0) (words k f.1) h (length-words k f.0 ∙ sym half) halves

    pub high-words : take (length xs - h) (drop h xs) ≡ words k f.1
    high-words =
        let l : length (drop h xs) ≤ length xs - h = omega (arith, length-drop h xs) in
        take_all (length xs - h) (drop h xs) l ∙ last_words

    pub low_back : (ys : List ℕ) (g : Fn k) → ys ≡ words k g → ys ++ drop h xs ≡ words (suc k) (g, f.1)
    low_back ys g p = ap₂ ◌++◌ p last_words ∙ sym (words-halves k (g, f.1) more)

    pub high_back : (ys : List ℕ) (g : Fn k) → ys ≡ words k g
        → take h xs ++ (ys ++ drop (length xs - h) (drop h xs)) ≡ words (suc k) (f.0, g)
    high_back ys g p =
        let l : length (drop h xs) ≤ length xs - h = omega (arith, length-drop h xs) in
        ap₂ ◌++◌ low-words (ap (λ z. ys ++ z) (drop_of_length-le (drop h xs) l) ∙ append-nil ys ∙ p) ∙
        sym (words-halves k (f.0, g) more)

-- A slice of at most six columns into whose one word the word of a function is stored.
pub stored-word : (m w : ℕ) (xs : List ℕ) (f : Fn m) → m ≤ 6 → length xs ≡ size m → w ≡ num m f → set xs 0 w ≡ words m f
stored-word m w [] f h l e = let z : ⊥ = omega (arith, size_few m h) in absurd z
stored-word m w (x ∷ []) f h l e = ap (λ y. y ∷ []) e ∙ sym (words-few m f h)
stored-word m w (x ∷ y ∷ xs) f h l e = let z : ⊥ = omega (arith, size_few m h) in absurd z

-- A slice both of whose halves come back, the half for 0 first, with the tables of two functions.
pub filled-halves : (k h : ℕ) (xs ys zs : List ℕ) (f g : Fn k) → 6 ≤ k → h ≡ size k → length xs ≡ size (suc k)
    → ys ≡ words k f → zs ≡ words k g
    → take h (ys ++ drop h xs) ++ (zs ++ drop (length (ys ++ drop h xs) - h) (drop h (ys ++ drop h xs))) ≡ words (suc k) (f, g)
filled-halves k h xs ys zs f g more half long p q =
    let a : length ys ≡ h = ap length p ∙ length-words k f ∙ sym half in
    let b : length (ys ++ drop h xs) ≡ size (suc k) = back_length k h xs more half long ys (a ∙ half) in
    let c : drop h (ys ++ drop h xs) ≡ drop h xs = drop_at ys (drop h xs) h a in
    let l : length (drop h (ys ++ drop h xs)) ≤ length (ys ++ drop h xs) - h =
    omega (arith, length-drop h (ys ++ drop h xs)) in
    ap₂ ◌++◌ (take_at ys (drop h xs) h a ∙ p)
    (ap (λ t. zs ++ t) (drop_of_length-le (drop h (ys ++ drop h xs)) l) ∙ append-nil zs ∙ q) ∙
    sym (words-halves k (f, g) more)
