-- The list generator on a row: what is promised of the three lists decides the row, and is brought from three arrays to the row
-- that they were taken from.
use mathlib.Core.Path.{◌≡◌, refl, sym, subst, subst⁻¹, ◌∙◌}
use mathlib.Core.Bool.{Bool, true, false, cond}
use mathlib.Core.List.{List}
use Prim.Native.Nat.{ℕ, ◌≤◌, ◌<◌}
use native.Mathlib.Omega.{arith}
use lib.Dec.{leb}
use lib.ListN.{length, take}
use borrow.Author.Tests.{leb-true, leb-false}
use Rattle.std.specs.Prelude.{Result, Err}
use Rattle.rule.specs.Refusal.{refusal_of}
use Rattle.rule.specs.declared.refusal.Refused.{Refused}
use Rattle.graph.specs.Entry.{table_conditions, input_conditions, cleared}
use Rattle.list.specs.Entry.{refusal, answer_for, numbers_for, numbers_of, changes_nothing, table_left, room_left, Generates}
use Rattle.nodes.specs.Row.{levels, lows, highs, cleared_row, over_refusal, ApartOf, TogetherIn}
use Rattle.nodes.specs.Generator.{row_refusal, row_left, RowGenerates, GeneratesOn}
use Rattle.nodes.specs.declared.row.Node.{Node}
use Rattle.nodes.specs.declared.apart.Apart.{Apart}
use Rattle.nodes.proofs.Operations.{Lists, along}
use Rattle.nodes.proofs.Parts.{AreWhole, CameBack, Starts, Numbers, starts_along, apart-whole, back-whole, back-starts, apart_front, together_front, together_over, together-same}
use Rattle.nodes.proofs.Refusals.{over-refused, over-case}
use Rattle.nodes.proofs.Rows.{same_row, levels-cleared, lows-cleared, highs-cleared}

-- A field of the row that is left.
pub left_field : (f : List Node → List ℕ) (c : ℕ) (xs : List Node) → f (cleared_row c xs) ≡ cleared c (f xs) → (t : Bool) → f (cond t xs (cleared_row c xs)) ≡ cond t (f xs) (cleared c (f xs))
left_field f c xs e true = refl
left_field f c xs e false = e

module _ (n c : ℕ) (xs : List Node) (a b : ℕ) (room : List ℕ) where
  -- The promise of the three lists of a row.
  abbrev Promised : ℕ → List Node → List ℕ → Result ℕ Refused → Type 0
  Promised c' ys room' r = Generates n c (levels xs) (lows xs) (highs xs) a b room c' (levels ys) (lows ys) (highs ys) room' r

  -- It decides the row.
  of_lists : (c' : ℕ) (ys : List Node) (room' : List ℕ) (r : Result ℕ Refused) → Promised c' ys room' r → RowGenerates n c xs a b room c' ys room' r
  unfolding row_left row_refusal table_left
  of_lists c' ys room' r g =
      let t : Bool = changes_nothing n c (levels xs) (lows xs) (highs xs) a b room (refusal n c (levels xs) (lows xs) (highs xs) a b room) in
      record {
        lists = g;
        row = same_row ys (cond t xs (cleared_row c xs)) (g.level ∙ sym (left_field levels c xs (levels-cleared c xs) t)) (g.low ∙ sym (left_field lows c xs (lows-cleared c xs) t)) (g.high ∙ sym (left_field highs c xs (highs-cleared c xs) t));
      }

  -- The generator ran on three lists that are those of the row, before and after.
  pub list_ran : {v l h v' l' h' : List ℕ} {c' : ℕ} {ys : List Node} {room' : List ℕ} {r : Result ℕ Refused} → v ≡ levels xs → l ≡ lows xs → h ≡ highs xs → v' ≡ levels ys → l' ≡ lows ys → h' ≡ highs ys
      → Generates n c v l h a b room c' v' l' h' room' r → RowGenerates n c xs a b room c' ys room' r
  list_ran {c' = c'} {ys} {room'} {r} p q s p' q' s' g =
      of_lists c' ys room' r (subst (λ (t : Lists). Generates n c t.0 t.1 t.2 a b room c' t.3 t.4 t.5 room' r) (along p q s p' q' s') g)

  -- A row of more than 4,096 records is refused, and keeps its promise by that alone.
  refused : 4096 < length xs → refusal n c (levels xs) (lows xs) (highs xs) a b room ≡ over_refusal n
  unfolding refusal input_conditions table_conditions
  refused l = over-refused n c xs _ l

  pub over-generates : 4096 < length xs → RowGenerates n c xs a b room c xs room (Err (record { refusal = refusal_of (over_refusal n); returned = 0 }))
  unfolding answer_for numbers_of numbers_for changes_nothing table_left room_left refusal_of
  over-generates l = of_lists c xs room _ (over-case n
      (λ k. refusal n c (levels xs) (lows xs) (highs xs) a b room ≡ k → Promised c xs room (Err (record { refusal = refusal_of k; returned = 0 })))
      (λ e. record { answer = rw e refl; numbers = rw e refl; count = refl; level = rw e refl; low = rw e refl; high = rw e refl; list = rw e refl })
      (λ e. record { answer = rw e refl; numbers = rw e refl; count = refl; level = rw e refl; low = rw e refl; high = rw e refl; list = rw e refl })
      (refused l))

  -- The row is taken apart, the generator runs on the three arrays, and they are stored.
  pub list_saved : (c' : ℕ) (ys : List Node) (t t' : Apart) (room' : List ℕ) (r : Result ℕ Refused) → ApartOf xs t → AreWhole t' → GeneratesOn n c (length xs) t a b room c' t' room' r → TogetherIn t' xs ys
      → RowGenerates n c xs a b room c' ys room' r
  list_saved c' ys t t' room' r p w on s = go (leb (length xs) 4096) refl
    where
      go : (k : Bool) → leb (length xs) 4096 ≡ k → RowGenerates n c xs a b room c' ys room' r
      go true e =
          let m = leb-true (length xs) 4096 e in
          let before = apart_front xs t p m in
          let after = together_front xs ys t' w s m in
          list_ran before.level before.low before.high after.level after.low after.high (on.within m)
      go false e =
          let m = leb-false (length xs) 4096 e in
          let f = on.beyond m in
          let same : ys ≡ xs = together-same xs ys t p (subst (λ (u : Apart). TogetherIn u xs ys) f.0 s) in
          subst⁻¹ (λ (us : List Node). RowGenerates n c xs a b room c' us room' r) same
          (subst⁻¹ (λ (d : ℕ). RowGenerates n c xs a b room d xs room' r) f.1
          (subst⁻¹ (λ (us : List ℕ). RowGenerates n c xs a b room c xs us r) f.2 (subst⁻¹ (λ (g : Result ℕ Refused). RowGenerates n c xs a b room c xs room g) f.3 (over-generates m))))

-- The generator ran on the first parts of three arrays, which have come back.
lent : (n c size : ℕ) (t t' : Apart) (a b : ℕ) (room : List ℕ) {v l h : List ℕ} {c' : ℕ} {room' : List ℕ} {r : Result ℕ Refused} → size ≤ 4096 → Starts size t' v l h
    → Generates n c (take size t.level) (take size t.low) (take size t.high) a b room c' v l h room' r → GeneratesOn n c size t a b room c' t' room' r
lent n c size t t' a b room {c' = c'} {room'} {r} m s o = record {
  within = λ _.
      subst⁻¹ (λ (u : Numbers). Generates n c (take size t.level) (take size t.low) (take size t.high) a b room c' u.0 u.1 u.2 room' r) (starts_along s) o;
  beyond = λ k. let z : ⊥ = omega arith in absurd z;
}

-- A row of at most 4,096 records: its numbers are lent, come back, and are stored in one of its length.
pub list_back : (n c : ℕ) (xs xs' ys : List Node) (t t' : Apart) (a b : ℕ) (room : List ℕ) {v l h : List ℕ} {c' : ℕ} {room' : List ℕ} {r : Result ℕ Refused} → length xs ≤ 4096 → ApartOf xs t → CameBack (length xs) t v l h t'
    → Generates n c (take (length xs) t.level) (take (length xs) t.low) (take (length xs) t.high) a b room c' v l h room' r → length xs' ≡ length xs → TogetherIn t' xs' ys → RowGenerates n c xs a b room c' ys room' r
list_back n c xs xs' ys t t' a b room {c' = c'} {room'} {r} m p k o e s =
    let w = apart-whole xs t p in
    let w' = back-whole m w k in
    list_saved n c xs a b room c' ys t t' room' r p w' (lent n c (length xs) t t' a b room m (back-starts m w k) o) (together_over xs xs' ys t' w' e m s)
