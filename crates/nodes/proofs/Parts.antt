-- The parts of three arrays that a row fills: taken apart, lent and back, and stored.
use mathlib.Core.Path.{◌≡◌, sym, ap, subst⁻¹, ◌∙◌}
use mathlib.Core.List.{List, ◌++◌, map}
use Prim.Native.Nat.{ℕ, ◌≤◌, ◌+◌}
use native.Mathlib.Omega.{arith}
use lib.ListN.{length, take, drop, replicate, length-replicate, length-map, length-append}
use lib.Seq.{length-take-le, take_at}
use Rattle.std.proofs.lemmas.List.{length-drop}
use Rattle.nodes.specs.Row.{levels, lows, highs, over, ApartOf, TogetherIn}
use Rattle.nodes.specs.declared.row.Node.{Node}
use Rattle.nodes.specs.declared.apart.Apart.{Apart}
use Rattle.nodes.proofs.Copying.{over_front, over-short, over_back, length-over}
use Rattle.nodes.proofs.Rows.{same_row}

-- The part that is lent has the row's length.
pub part-long : (us : List ℕ) (size : ℕ) → length us ≡ 4096 → size ≤ 4096 → size ≡ length (take size us)
part-long us size e l = sym (length-take-le size us (subst⁻¹ (λ (m : ℕ). size ≤ m) e l))

-- After the part has come back, it is the first numbers, and the array is as long as before.
pub part_back : (us vs : List ℕ) (size : ℕ) → length us ≡ 4096 → size ≤ 4096 → length vs ≡ length (take size us) → take size (vs ++ drop size us) ≡ vs
part_back us vs size e l k = take_at vs (drop size us) size (k ∙ sym (part-long us size e l))

pub whole_back : (us vs : List ℕ) (size : ℕ) → length us ≡ 4096 → size ≤ 4096 → length vs ≡ length (take size us) → length (vs ++ drop size us) ≡ 4096
whole_back us vs size e l k =
    let part : length vs ≡ size = k ∙ sym (part-long us size e l) in
    let rest : length vs + length (drop size us) ≡ 4096 = omega (arith, part, length-drop size us, e, l) in
    length-append vs (drop size us) ∙ rest

-- A field of a row that was taken apart.
taken-long : (us zs : List ℕ) → zs ≡ over us (replicate 4096 0) → length zs ≡ 4096
taken-long us zs e = ap length e ∙ length-over 0 us (replicate 4096 0) ∙ length-replicate {A = ℕ} 4096 0

taken_front : (f : Node → ℕ) (xs : List Node) (zs : List ℕ) → zs ≡ over (map f xs) (replicate 4096 0) → length xs ≤ 4096 → take (length xs) zs ≡ map f xs
taken_front f xs zs e l =
    let long : length (map f xs) ≡ length xs = length-map xs f in
    let room : length (replicate {A = ℕ} 4096 0) ≡ 4096 = length-replicate {A = ℕ} 4096 0 in
    ap (λ (k : ℕ). take k zs) (sym long) ∙ ap (take (length (map f xs))) e ∙ over_front (map f xs) (replicate 4096 0) (omega (arith, long, room, l))

-- A field of a row that was stored.
stored_front : (f : Node → ℕ) (xs ys : List Node) (zs : List ℕ) → length zs ≡ 4096 → map f ys ≡ over zs (map f xs) → length xs ≤ 4096 → take (length xs) zs ≡ map f ys
stored_front f xs ys zs k e l =
    let long : length (map f xs) ≡ length xs = length-map xs f in
    ap (λ (m : ℕ). take m zs) (sym long) ∙ sym (over-short zs (map f xs) (omega (arith, long, k, l))) ∙ sym e

unmoved : (f : Node → ℕ) (xs ys : List Node) (zs : List ℕ) → zs ≡ over (map f xs) (replicate 4096 0) → map f ys ≡ over zs (map f xs) → map f ys ≡ map f xs
unmoved f xs ys zs e s = s ∙ ap (λ (us : List ℕ). over us (map f xs)) e ∙ over_back (map f xs) (replicate 4096 0)

-- What is stored in a row of at most 4,096 records does not depend on what it held.
stored_over : (f : Node → ℕ) (xs xs' ys : List Node) (zs : List ℕ) → length zs ≡ 4096 → length xs' ≡ length xs → length xs ≤ 4096 → map f ys ≡ over zs (map f xs') → map f ys ≡ over zs (map f xs)
stored_over f xs xs' ys zs k e l s =
    let long : length (map f xs) ≡ length xs = length-map xs f in
    let long' : length (map f xs') ≡ length xs' = length-map xs' f in
    s ∙ over-short zs (map f xs') (omega (arith, long', e, k, l)) ∙ ap (λ (m : ℕ). take m zs) (long' ∙ e ∙ sym long) ∙
    sym (over-short zs (map f xs) (omega (arith, long, k, l)))

levels_unmoved : (xs ys : List Node) (zs : List ℕ) → zs ≡ over (levels xs) (replicate 4096 0) → levels ys ≡ over zs (levels xs) → levels ys ≡ levels xs
unfolding levels
levels_unmoved = unmoved (λ x. x.level)

lows_unmoved : (xs ys : List Node) (zs : List ℕ) → zs ≡ over (lows xs) (replicate 4096 0) → lows ys ≡ over zs (lows xs) → lows ys ≡ lows xs
unfolding lows
lows_unmoved = unmoved (λ x. x.low)

highs_unmoved : (xs ys : List Node) (zs : List ℕ) → zs ≡ over (highs xs) (replicate 4096 0) → highs ys ≡ over zs (highs xs) → highs ys ≡ highs xs
unfolding highs
highs_unmoved = unmoved (λ x. x.high)

-- Three arrays of the full length.
pub record AreWhole (a : Apart) : Type 0 where
  pub level : length a.level ≡ 4096
  pub low : length a.low ≡ 4096
  pub high : length a.high ≡ 4096

-- The first numbers of three arrays are those of a row.
pub record Holds (size : ℕ) (a : Apart) (xs : List Node) : Type 0 where
  pub level : take size a.level ≡ levels xs
  pub low : take size a.low ≡ lows xs
  pub high : take size a.high ≡ highs xs

-- Three arrays whose first parts were lent, and have come back as three lists of the same lengths.
pub record CameBack (size : ℕ) (a : Apart) (v l h : List ℕ) (b : Apart) : Type 0 where
  pub levels-long : length v ≡ length (take size a.level)
  pub lows-long : length l ≡ length (take size a.low)
  pub highs-long : length h ≡ length (take size a.high)
  pub level : b.level ≡ v ++ drop size a.level
  pub low : b.low ≡ l ++ drop size a.low
  pub high : b.high ≡ h ++ drop size a.high

-- The first numbers of three arrays are those of three lists.
pub record Starts (size : ℕ) (a : Apart) (v l h : List ℕ) : Type 0 where
  pub level : take size a.level ≡ v
  pub low : take size a.low ≡ l
  pub high : take size a.high ≡ h

-- Three lists of numbers.
abbrev pub Numbers : Type 0
Numbers = List ℕ × List ℕ × List ℕ

pub starts_along : {size : ℕ} {a : Apart} {v l h : List ℕ} → Starts size a v l h → ◌≡◌ {A = Numbers} (take size a.level, take size a.low, take size a.high) (v, l, h)
starts_along s = λ i. (s.level i, s.low i, s.high i)

pub apart-whole : (xs : List Node) (a : Apart) → ApartOf xs a → AreWhole a
apart-whole xs a p = record {
  level = taken-long (levels xs) a.level p.level;
  low = taken-long (lows xs) a.low p.low;
  high = taken-long (highs xs) a.high p.high;
}

pub back-whole : {size : ℕ} {a b : Apart} {v l h : List ℕ} → size ≤ 4096 → AreWhole a → CameBack size a v l h b → AreWhole b
back-whole {size} {a} {b} {v} {l} {h} m w c = record {
  level = ap length c.level ∙ whole_back a.level v size w.level m c.levels-long;
  low = ap length c.low ∙ whole_back a.low l size w.low m c.lows-long;
  high = ap length c.high ∙ whole_back a.high h size w.high m c.highs-long;
}

pub back-starts : {size : ℕ} {a b : Apart} {v l h : List ℕ} → size ≤ 4096 → AreWhole a → CameBack size a v l h b → Starts size b v l h
back-starts {size} {a} {b} {v} {l} {h} m w c = record {
  level = ap (take size) c.level ∙ part_back a.level v size w.level m c.levels-long;
  low = ap (take size) c.low ∙ part_back a.low l size w.low m c.lows-long;
  high = ap (take size) c.high ∙ part_back a.high h size w.high m c.highs-long;
}

-- A row of at most 4,096 records is the first numbers of the arrays that it is taken apart into, and of those that are stored in it.
pub apart_front : (xs : List Node) (a : Apart) → ApartOf xs a → length xs ≤ 4096 → Holds (length xs) a xs
unfolding levels lows highs
apart_front xs a p m = record {
  level = taken_front (λ x. x.level) xs a.level p.level m;
  low = taken_front (λ x. x.low) xs a.low p.low m;
  high = taken_front (λ x. x.high) xs a.high p.high m;
}

pub together_front : (xs ys : List Node) (a : Apart) → AreWhole a → TogetherIn a xs ys → length xs ≤ 4096 → Holds (length xs) a ys
unfolding levels lows highs
together_front xs ys a w t m = record {
  level = stored_front (λ x. x.level) xs ys a.level w.level t.level m;
  low = stored_front (λ x. x.low) xs ys a.low w.low t.low m;
  high = stored_front (λ x. x.high) xs ys a.high w.high t.high m;
}

pub together_over : (xs xs' ys : List Node) (a : Apart) → AreWhole a → length xs' ≡ length xs → length xs ≤ 4096 → TogetherIn a xs' ys → TogetherIn a xs ys
unfolding levels lows highs
together_over xs xs' ys a w e m t = record {
  level = stored_over (λ x. x.level) xs xs' ys a.level w.level e m t.level;
  low = stored_over (λ x. x.low) xs xs' ys a.low w.low e m t.low;
  high = stored_over (λ x. x.high) xs xs' ys a.high w.high e m t.high;
}

-- A row that is taken apart and stored again is the same, at any length.
pub together-same : (xs ys : List Node) (a : Apart) → ApartOf xs a → TogetherIn a xs ys → ys ≡ xs
together-same xs ys a p t =
    same_row ys xs (levels_unmoved xs ys a.level p.level t.level) (lows_unmoved xs ys a.low p.low t.low) (highs_unmoved xs ys a.high p.high t.high)
