-- The loops that take the records of a row apart and store them again: the numbers of a field are copied from the first on, and at
-- the end as many are as both have.
use mathlib.Core.Path.{◌≡◌, sym, ap, ap₂, ◌∙◌}
use mathlib.Core.List.{List, ◌++◌, map, map-append}
use Prim.Native.Nat.{ℕ, ◌+◌, ◌≤◌, ◌<◌, min}
use native.Mathlib.Omega.{arith}
use lib.ListN.{length, get_or, set, take, drop, replicate, get_or-map, length-map, length-replicate}
use lib.Seq.{length-take-le}
use Rattle.std.proofs.lemmas.List.{map-set, take-map, drop-map, get_or-take}
use Rattle.nodes.specs.Row.{over}
use Rattle.nodes.specs.declared.row.Node.{Node}
use Rattle.nodes.proofs.Copying.{copied, copied_more, copied_over, copied_part}

-- The first part of a row, as long as row and array.
part-long : (xs : List Node) (size : ℕ) → size ≡ min (length xs) 4096 → length (take size xs) ≡ size
part-long xs size e = let first : size ≤ length xs = omega (arith, e) in length-take-le size xs first

-- A field of one more record is taken, where the default's is 0.
pub one_out : (f : Node → ℕ) (xs : List Node) (ys zs : List ℕ) (size i : ℕ) (d : Node) → f d ≡ 0 → size ≡ min (length xs) 4096 → i < length (take size xs) → zs ≡ copied 0 (map f xs) ys i
    → set zs i (f (get_or (take size xs) i d)) ≡ copied 0 (map f xs) ys (i + 1)
one_out f xs ys zs size i d e n k s =
    let before : i < size = omega (arith, k, part-long xs size n) in
    ap (λ (us : List ℕ). set us i (f (get_or (take size xs) i d))) s ∙
    ap (set (copied 0 (map f xs) ys i) i) (ap f (get_or-take size xs i d before) ∙ sym (get_or-map f xs i d) ∙ ap (get_or (map f xs) i) e) ∙
    copied_more 0 (map f xs) ys i

-- A field of one more record is stored.
pub one_in : (f : Node → ℕ) (us vs : List ℕ) (ps : List Node) (i : ℕ) (x : Node) → f x ≡ get_or us i 0 → map f ps ≡ copied 0 us vs i
    → map f (set ps i x) ≡ copied 0 us vs (i + 1)
one_in f us vs ps i x e s =
    map-set f ps i x ∙ ap (λ (zs : List ℕ). set zs i (f x)) s ∙ ap (set (copied 0 us vs i) i) e ∙ copied_more 0 us vs i

-- At the end as many are taken as there is room for.
pub all_out : (f : Node → ℕ) (xs : List Node) (zs : List ℕ) (size i : ℕ) → size ≡ min (length xs) 4096 → length (take size xs) ≤ i → i ≤ length (take size xs) → zs ≡ copied 0 (map f xs) (replicate 4096 0) i
    → zs ≡ over (map f xs) (replicate 4096 0)
all_out f xs zs size i n l k s =
    let all : i ≡ min (length (map f xs)) (length (replicate {A = ℕ} 4096 0)) = omega (arith, l, k, n, part-long xs size n, length-map xs f, length-replicate {A = ℕ} 4096 0) in
    s ∙ ap (copied 0 (map f xs) (replicate 4096 0)) all ∙ copied_over 0 (map f xs) (replicate 4096 0)

-- At the end as many are stored as there are, into the first part of the row.
pub all_in : (f : Node → ℕ) (us : List ℕ) (xs ps : List Node) (size i : ℕ) → length us ≡ 4096 → size ≡ min (length xs) 4096 → i ≡ length (take size xs)
    → map f ps ≡ copied 0 us (map f (take size xs)) i → map f (ps ++ drop size xs) ≡ over us (map f xs)
all_in f us xs ps size i m n k s =
    let both : size ≡ min (length us) (length (map f xs)) = omega (arith, m, n, length-map xs f) in
    map-append f ps (drop size xs) ∙
    ap₂ (λ (vs : List ℕ) (ws : List ℕ). vs ++ ws) (s ∙ ap₂ (copied 0 us) (sym (take-map f size xs)) (k ∙ part-long xs size n)) (sym (drop-map f size xs)) ∙
    copied_part 0 us (map f xs) size (omega (arith, both)) (omega (arith, both)) ∙
    ap (copied 0 us (map f xs)) both ∙ copied_over 0 us (map f xs)
