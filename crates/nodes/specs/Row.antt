-- A row of node records: its three lists, and one row copied over another.
use Rattle.std.specs.Prelude.{◌≡◌, false, List, [], ◌∷◌, map, ◌++◌, ℕ, ◌-◌, leb, length, take, drop, replicate}
use Rattle.rule.specs.Refusal.{first_broken, columns_over, table_over}
use Rattle.graph.specs.declared.table.TableRef.{TableRef}
use Rattle.nodes.specs.declared.row.Node.{Node}
use Rattle.nodes.specs.declared.row.RowMut.{RowMut}
use Rattle.nodes.specs.declared.row.RowRef.{RowRef}
use Rattle.nodes.specs.declared.apart.Apart.{Apart}

-- The levels, the lows and the highs of a row's records.
unfoldable pub levels : List Node → List ℕ
levels xs = map (λ x. x.level) xs

unfoldable pub lows : List Node → List ℕ
lows xs = map (λ x. x.low) xs

unfoldable pub highs : List Node → List ℕ
highs xs = map (λ x. x.high) xs

-- The record that is zero.
unfoldable pub zero_node : Node
zero_node = record { level = 0; low = 0; high = 0 }

-- The second row, its first records those of the first row, as many as both have.
unfoldable pub over : {X : Type 0} → List X → List X → List X
over xs ys = take (length ys) xs ++ drop (length xs) ys

-- Three arrays hold the numbers of a row's records, as many as there is room for, and zeros past them.
pub record ApartOf (xs : List Node) (a : Apart) : Type 0 where
  pub level : a.level ≡ over (levels xs) (replicate 4096 0)
  pub low : a.low ≡ over (lows xs) (replicate 4096 0)
  pub high : a.high ≡ over (highs xs) (replicate 4096 0)

-- A table to be read holds the first numbers of three arrays, as many as the row has records.
pub record SharesRow (a : Apart) (r : RowRef) (t : TableRef) : Type 0 where
  pub columns : t.columns ≡ r.columns
  pub count : t.count ≡ r.count
  pub level : t.level.now ≡ take (length r.nodes.now) a.level
  pub low : t.low.now ≡ take (length r.nodes.now) a.low
  pub high : t.high.now ≡ take (length r.nodes.now) a.high

-- A row's first records take the numbers of three arrays, as many as both have; the others stay.
pub record TogetherIn (a : Apart) (xs : List Node) (xs' : List Node) : Type 0 where
  pub level : levels xs' ≡ over a.level (levels xs)
  pub low : lows xs' ≡ over a.low (lows xs)
  pub high : highs xs' ≡ over a.high (highs xs)

-- Afterwards a row has the same columns and the same records, as many.
pub record SameRow (r : RowMut) (r' : RowMut) : Type 0 where
  pub columns : r'.columns ≡ r.columns
  pub nodes : r'.nodes.ghost_name ≡ r.nodes.ghost_name
  pub long : length r'.nodes.now ≡ length r.nodes.now

-- A row whose records from place c on are zero.
unfoldable pub cleared_row : ℕ → List Node → List Node
cleared_row c xs = take c xs ++ replicate (length xs - c) zero_node

-- The refusal of a row of more than 4,096 records: 1 for columns over 16, else 2.
unfoldable pub over_refusal : ℕ → ℕ
over_refusal n = first_broken (record { number = columns_over; kept = leb n 16 } ∷ record { number = table_over; kept = false } ∷ [])
