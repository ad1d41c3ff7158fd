-- Loops over the words of a table that store one word a turn: what is stored so far, and what stands there at the end.
use mathlib.Core.Path.{◌≡◌, refl, sym, ap, ◌∙◌, subst⁻¹}
use mathlib.Core.Bool.{Bool, true, false}
use mathlib.Core.List.{List, [], ◌∷◌, ◌++◌, append_assoc, append-nil}
use mathlib.Core.Logic.{◌⊎◌, inl, inr}
use Prim.Native.Nat.{ℕ, zero, suc, ◌+◌, ◌<◌, ◌≤◌}
use native.Mathlib.Numerals.{add-one}
use native.Mathlib.Omega.{arith}
use lib.Dec.{ltb}
use lib.ListN.{length, get_or, drop, set, length-append, length-set, drop_of_length-le, get_or-append}
use lib.Seq.{drop-cons, set_at, get_or_at, ext_get_or}
use borrow.Author.Tests.{ltb-true, ltb-false}
use Rattle.words.specs.Word.{wordwise}

-- Below a number, or that number.
pub which : (k n : ℕ) → k < suc n → (k < n) ⊎ (k ≡ n)
which k n h = go (ltb k n) refl
  where
    go : (b : Bool) → ltb k n ≡ b → (k < n) ⊎ (k ≡ n)
    go true e = inl (ltb-true k n e)
    go false e = inr (omega (arith, ltb-false k n e))

-- The first n values.
abbrev front : (ℕ → ℕ) → ℕ → List ℕ
front v zero = []
front v (suc n) = front v n ++ (v n ∷ [])

length_front : (v : ℕ → ℕ) (n : ℕ) → length (front v n) ≡ n
length_front v zero = refl
length_front v (suc n) = omega (arith, length-append (front v n) (v n ∷ []), length_front v n)

get_d_front : (v : ℕ → ℕ) (n k : ℕ) → k < n → get_or (front v n) k 0 ≡ v k
get_d_front v zero k h = let z : ⊥ = omega arith in absurd z
get_d_front v (suc n) k h = go (which k n (omega arith)) (get_d_front v n k)
  where
    go : (k < n) ⊎ (k ≡ n) → (k < n → get_or (front v n) k 0 ≡ v k) → get_or (front v (suc n)) k 0 ≡ v k
    go (inl l) ih = get_or-append (front v n) (v n ∷ []) 0 k (omega (arith, length_front v n)) ∙ ih l
    go (inr e) ih =
        get_or_at (front v n) (v n) [] 0 k (length_front v n ∙ sym e) ∙ ap v (sym e)

-- Each word before i is the value of its place, and the rest is as it was.
pub record SoFar (v : ℕ → ℕ) (old now : List ℕ) (i : ℕ) : Type 0 where
  pub place : i ≤ length old
  pub same : length now ≡ length old
  pub list : now ≡ front v i ++ drop i old

pub so_far_none : (v : ℕ → ℕ) (old : List ℕ) → SoFar v old old 0
so_far_none v old = record { place = omega arith; same = refl; list = refl }

module _ {v : ℕ → ℕ} {old now : List ℕ} {i : ℕ} (s : SoFar v old now i) where
  -- What was not stored yet is as it was.
  pub so_far_read : i < length old → get_or now i 0 ≡ get_or old i 0
  so_far_read h =
      ap (λ l. get_or l i 0) (s.list ∙ ap (λ l. front v i ++ l) (drop-cons old i 0 h)) ∙
      get_or_at (front v i) (get_or old i 0) (drop (suc i) old) 0 i (length_front v i)

  pub so_far_next : i < length old → {x : ℕ} → x ≡ v i → SoFar v old (set now i x) (i + 1)
  so_far_next h {x} e = record { place = omega arith; same = length-set now i x ∙ s.same; list = next }
    where
      stored : set now i x ≡ front v i ++ (v i ∷ drop (suc i) old)
      stored =
          ap (λ l. set l i x) (s.list ∙ ap (λ l. front v i ++ l) (drop-cons old i 0 h)) ∙
          set_at (front v i) (get_or old i 0) (drop (suc i) old) x i (length_front v i) ∙
          ap (λ y. front v i ++ (y ∷ drop (suc i) old)) e

      next : set now i x ≡ front v (i + 1) ++ drop (i + 1) old
      next =
          subst⁻¹ (λ k. set now i x ≡ front v k ++ drop k old) (add-one i)
          (stored ∙ sym (append_assoc (front v i) (v i ∷ []) (drop (suc i) old)))

  -- At the end the list is the one that has these values.
  pub so_far_end : length old ≤ i → (new : List ℕ) → length new ≡ length old → ((k : ℕ) → k < length old → v k ≡ get_or new k 0) → now ≡ new
  so_far_end h new l each =
      let e : i ≡ length old = omega (arith, s.place) in
      let w : now ≡ front v i =
      s.list ∙ ap (λ x. front v i ++ x) (drop_of_length-le old h) ∙ append-nil (front v i) in
      w ∙
      ext_get_or 0 (front v i) new (length_front v i ∙ e ∙ sym l)
      (λ k b. get_d_front v i k (omega (arith, length_front v i)) ∙ each k (omega (arith, length_front v i)))

-- Lists joined word by word, by their words.
pub length-wordwise : (on : ℕ → ℕ → ℕ) (xs ys : List ℕ) → length xs ≡ length ys → length (wordwise on xs ys) ≡ length xs
unfolding wordwise
length-wordwise on [] ys e = refl
length-wordwise on (x ∷ xs) [] e = let z : ⊥ = omega arith in absurd z
length-wordwise on (x ∷ xs) (y ∷ ys) e = ap suc (length-wordwise on xs ys (omega arith))

pub get_d_wordwise : (on : ℕ → ℕ → ℕ) (xs ys : List ℕ) (k : ℕ) → length xs ≡ length ys → k < length xs → get_or (wordwise on xs ys) k 0 ≡ on (get_or xs k 0) (get_or ys k 0)
unfolding wordwise
get_d_wordwise on [] ys k e h = let z : ⊥ = omega arith in absurd z
get_d_wordwise on (x ∷ xs) [] k e h = let z : ⊥ = omega arith in absurd z
get_d_wordwise on (x ∷ xs) (y ∷ ys) zero e h = refl
get_d_wordwise on (x ∷ xs) (y ∷ ys) (suc k) e h = get_d_wordwise on xs ys k (omega arith) (omega arith)

-- A loop that joins two lists word by word.
pub so_far_joined : (on : ℕ → ℕ → ℕ) (xs ys : List ℕ) {old now : List ℕ} {i : ℕ} → SoFar (λ k. on (get_or xs k 0) (get_or ys k 0)) old now i
    → length old ≤ i → length xs ≡ length old → length ys ≡ length old → now ≡ wordwise on xs ys
so_far_joined on xs ys {old} s h p q =
    so_far_end s h (wordwise on xs ys) (length-wordwise on xs ys (p ∙ sym q) ∙ p)
    (λ k l.
    let b : k < length xs = omega arith in
    sym (get_d_wordwise on xs ys k (p ∙ sym q) b))
