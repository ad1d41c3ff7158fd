-- A row of records and its three lists: they determine it, and go along with parts of it and with clearing.
use mathlib.Core.Path.{◌≡◌, refl, sym, ap, ◌∙◌}
use mathlib.Core.List.{List, [], ◌∷◌, ◌++◌, map, map-append, head-eq_of_cons-eq, tail-eq_of_cons-eq, cons-ne-nil}
use Prim.Native.Nat.{ℕ, zero, suc, ◌-◌}
use lib.ListN.{length, take, replicate, length-map}
use Rattle.std.proofs.lemmas.List.{take-map}
use Rattle.graph.specs.Entry.{cleared}
use Rattle.nodes.specs.Row.{levels, lows, highs, zero_node, cleared_row}
use Rattle.nodes.specs.declared.row.Node.{Node}

same : (xs ys : List Node) → map (λ x. x.level) xs ≡ map (λ x. x.level) ys → map (λ x. x.low) xs ≡ map (λ x. x.low) ys → map (λ x. x.high) xs ≡ map (λ x. x.high) ys → xs ≡ ys
same [] [] p q r = refl
same [] (y ∷ ys) p q r = absurd (cons-ne-nil _ _ (sym p))
same (x ∷ xs) [] p q r = absurd (cons-ne-nil _ _ p)
same (x ∷ xs) (y ∷ ys) p q r =
    let rest = same xs ys (tail-eq_of_cons-eq p) (tail-eq_of_cons-eq q) (tail-eq_of_cons-eq r) in
    λ i. record { level = head-eq_of_cons-eq p i; low = head-eq_of_cons-eq q i; high = head-eq_of_cons-eq r i } ∷ rest i

-- The three lists determine the row.
pub same_row : (xs ys : List Node) → levels xs ≡ levels ys → lows xs ≡ lows ys → highs xs ≡ highs ys → xs ≡ ys
unfolding levels lows highs
same_row = same

pub levels_take : (k : ℕ) (xs : List Node) → levels (take k xs) ≡ take k (levels xs)
unfolding levels
levels_take k xs = sym (take-map (λ x. x.level) k xs)

pub lows_take : (k : ℕ) (xs : List Node) → lows (take k xs) ≡ take k (lows xs)
unfolding lows
lows_take k xs = sym (take-map (λ x. x.low) k xs)

pub highs_take : (k : ℕ) (xs : List Node) → highs (take k xs) ≡ take k (highs xs)
unfolding highs
highs_take k xs = sym (take-map (λ x. x.high) k xs)

map_replicate : (f : Node → ℕ) (k : ℕ) (x : Node) → map f (replicate k x) ≡ replicate k (f x)
map_replicate f zero x = refl
map_replicate f (suc k) x = ap {B = List ℕ} (λ r. f x ∷ r) (map_replicate f k x)

map_cleared : (f : Node → ℕ) (c : ℕ) (xs : List Node) (x : Node) → f x ≡ 0 → map f (take c xs ++ replicate (length xs - c) x) ≡ take c (map f xs) ++ replicate (length (map f xs) - c) 0
map_cleared f c xs x e =
    map-append f (take c xs) (replicate (length xs - c) x) ∙ ap (λ (us : List ℕ). us ++ map f (replicate (length xs - c) x)) (sym (take-map f c xs)) ∙
    ap (λ (us : List ℕ). take c (map f xs) ++ us) (map_replicate f (length xs - c) x ∙ ap (replicate (length xs - c)) e ∙ ap (λ (k : ℕ). replicate (k - c) 0) (sym (length-map xs f)))

pub levels-cleared : (c : ℕ) (xs : List Node) → levels (cleared_row c xs) ≡ cleared c (levels xs)
unfolding levels cleared_row cleared zero_node
levels-cleared c xs = map_cleared (λ x. x.level) c xs zero_node refl

pub lows-cleared : (c : ℕ) (xs : List Node) → lows (cleared_row c xs) ≡ cleared c (lows xs)
unfolding lows cleared_row cleared zero_node
lows-cleared c xs = map_cleared (λ x. x.low) c xs zero_node refl

pub highs-cleared : (c : ℕ) (xs : List Node) → highs (cleared_row c xs) ≡ cleared c (highs xs)
unfolding highs cleared_row cleared zero_node
highs-cleared c xs = map_cleared (λ x. x.high) c xs zero_node refl
