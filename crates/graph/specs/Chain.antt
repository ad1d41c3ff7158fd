-- Chains of records: each record is on the chain of its bucket, so that equal records are on the same one.
use Rattle.std.specs.Prelude.{◌≡◌, cond, List, ℕ, zero, suc, ◌+◌, ◌*◌, ◌%◌, ◌<◌, eqb, length, get_or}
use Rattle.graph.specs.Sound.{Sized}
use Rattle.graph.specs.Table.{Table, table_of}

-- The bucket of a level, a low and a high number, and that of record j.
unfoldable pub bucket_of : ℕ → ℕ → ℕ → ℕ
bucket_of v l h = (v + 5 * l + 11 * h) % 1024

unfoldable pub bucket_at : Table → ℕ → ℕ
bucket_at T j = bucket_of (T.level j) (T.low j) (T.high j)

-- The place, from 1, of the latest of the first i records in a bucket, or 0.
unfoldable pub latest : Table → ℕ → ℕ → ℕ
latest T b zero = 0
latest T b (suc j) = cond (eqb (bucket_at T j) b) (suc j) (latest T b j)

-- The chains of the first c records of a table: `last` has the latest of each bucket, `prev` for each record the latest of
-- its bucket before it.
pub record Chained (c : ℕ) (v : List ℕ) (l : List ℕ) (h : List ℕ) (last : List ℕ) (prev : List ℕ) : Type 0 where
  pub sized : Sized c v l h
  pub buckets : length last ≡ 1024
  pub places : length prev ≡ 4096
  pub heads : (b : ℕ) → b < 1024 → get_or last b 0 ≡ latest (table_of v l h) b c
  pub links : (j : ℕ) → j < c → get_or prev j 0 ≡ latest (table_of v l h) (bucket_at (table_of v l h) j) j

-- What is asked to chain one record more.
pub record Linkable (i : ℕ) (v : List ℕ) (l : List ℕ) (h : List ℕ) (last : List ℕ) (prev : List ℕ) : Type 0 where
  pub chained : Chained i v l h last prev
  pub more : i < length v
