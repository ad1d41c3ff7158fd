-- Slices whose elements from a place on are zero: their length, what stands before the place, and what a fill leaves.
use mathlib.Core.Path.{◌≡◌, sym, ap, ◌∙◌}
use mathlib.Core.List.{List, [], ◌++◌, append-nil}
use Prim.Native.Nat.{ℕ, ◌-◌, ◌<◌, ◌≤◌}
use native.Mathlib.Omega.{arith}
use lib.ListN.{length, get_or, take, drop, replicate, length-append, length-take, length-drop, length-replicate}
use Rattle.std.proofs.lemmas.List.{drop_all}
use borrow.Rule.Slice.PartMut.{put_mid}
use lib.Seq.{length-take-le, take_at, get_or-take, ext_get_or}
use Rattle.graph.specs.Entry.{cleared}

-- A cleared slice is told by what stands before the place, and by the length.
told : (c : ℕ) (s : List ℕ) (t : List ℕ) → take c s ≡ take c t → length s ≡ length t → cleared c s ≡ cleared c t
unfolding cleared
told c s t e f = λ i. e i ++ replicate (f i - c) 0

module _ (c : ℕ) (s : List ℕ) where
  pub cleared-length : length (cleared c s) ≡ length s
  unfolding cleared
  cleared-length = simp (length-append, length-take, length-replicate) (omega arith)

  module _ (h : c ≤ length s) where
    -- What stands before the place is kept.
    pub cleared-before : take c (cleared c s) ≡ take c s
    unfolding cleared
    cleared-before = take_at (take c s) (replicate (length s - c) 0) c (length-take-le c s h)

    pub cleared_at : (j : ℕ) → j < c → get_or (cleared c s) j 0 ≡ get_or s j 0
    cleared_at j u = sym (get_or-take c (cleared c s) j 0 u) ∙ ap (λ t. get_or t j 0) cleared-before ∙ get_or-take c s j 0 u

    pub cleared-again : cleared c (cleared c s) ≡ cleared c s
    cleared-again = told c (cleared c s) s cleared-before cleared-length

-- Slices of one length that agree before the place are cleared alike.
pub cleared_alike : (c : ℕ) (s : List ℕ) (t : List ℕ) → length s ≡ length t → ((j : ℕ) → j < c → get_or s j 0 ≡ get_or t j 0) → cleared c s ≡ cleared c t
cleared_alike c s t e a = told c s t (ext_get_or 0 (take c s) (take c t) same_length same) e
  where
    same_length : length (take c s) ≡ length (take c t)
    same_length = omega (arith, length-take c s, length-take c t)

    same : (j : ℕ) → j < length (take c s) → get_or (take c s) j 0 ≡ get_or (take c t) j 0
    same j h =
        let u : j < c = omega (arith, length-take c s) in
        get_or-take c s j 0 u ∙ a j u ∙ sym (get_or-take c t j 0 u)

-- A slice whose elements from a place on are filled with zeros.
pub filled-cleared : (c : ℕ) (s z : List ℕ) → z ≡ replicate (length (take (length s - c) (drop c s))) 0 → put_mid c (length s - c) s z ≡ cleared c s
unfolding cleared
filled-cleared c s z e =
    let long : length (take (length s - c) (drop c s)) ≡ length s - c = simp (length-take, length-drop) (omega arith) in
    let rest : drop (length s - c) (drop c s) ≡ [] = drop_all (length s - c) (drop c s) (simp length-drop (omega arith)) in
    (λ i. take c s ++ ((e ∙ ap (λ (k : ℕ). replicate k 0) long) i ++ rest i)) ∙ ap (λ t. take c s ++ t) (append-nil (replicate (length s - c) 0))
