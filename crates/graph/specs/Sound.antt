-- What the inner functions ask of a table in three slices.
use Rattle.std.specs.Prelude.{◌≡◌, true, List, ℕ, ◌+◌, ◌<◌, ◌≤◌, length}
use Rattle.graph.specs.Table.{table_of, refers, good_table}

-- Three slices of one length, of at most 4,096 records, with a count that the length holds.
pub record Sized (c : ℕ) (v : List ℕ) (l : List ℕ) (h : List ℕ) : Type 0 where
  pub count : c ≤ length v
  pub low : length l ≡ length v
  pub high : length h ≡ length v
  pub room : length v ≤ 4096

-- A number that is a constant or names a record of the slices.
pub record Held (x : ℕ) (v : List ℕ) (l : List ℕ) (h : List ℕ) : Type 0 where
  pub level : x < length v + 2
  pub low : length l ≡ length v
  pub high : length h ≡ length v

-- Such slices whose records in use keep their rule, over n columns.
pub record Sound (n : ℕ) (c : ℕ) (v : List ℕ) (l : List ℕ) (h : List ℕ) : Type 0 where
  pub sized : Sized c v l h
  pub columns : n ≤ 16
  pub good : good_table n (table_of v l h) c ≡ true

-- A number over the columns from column k on, in such a table.
pub record Rooted (n : ℕ) (c : ℕ) (v : List ℕ) (l : List ℕ) (h : List ℕ) (k : ℕ) (x : ℕ) : Type 0 where
  pub sound : Sound n c v l h
  pub column : k ≤ n
  pub number : refers (table_of v l h) c k x ≡ true

-- Two numbers over the columns from column k on.
pub record RootedTwice (n : ℕ) (c : ℕ) (v : List ℕ) (l : List ℕ) (h : List ℕ) (k : ℕ) (a : ℕ) (b : ℕ) : Type 0 where
  pub sound : Sound n c v l h
  pub column : k ≤ n
  pub first : refers (table_of v l h) c k a ≡ true
  pub second : refers (table_of v l h) c k b ≡ true
