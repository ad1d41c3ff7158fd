-- The node table: a level, a low and a high number for each record. Numbers 0 and 1 are the constants, record i has
-- number i + 2. A table is three functions here, so that slices and rows of records are the same thing.
use Rattle.std.specs.Prelude.{◌≡◌, Bool, true, false, cond, not, ◌&&◌, ◌||◌, List, [], ◌∷◌, ◌++◌, ℕ, zero, suc, ◌+◌, ◌-◌, ◌<◌, eqb, ltb, get_or}
use Rattle.rule.specs.Func.{Fn}
use Rattle.rule.specs.Nodes.{Tree, tree}

pub record Table : Type 0 where
  pub level : ℕ → ℕ
  pub low : ℕ → ℕ
  pub high : ℕ → ℕ

-- The table that stands in three slices.
unfoldable pub table_of : List ℕ → List ℕ → List ℕ → Table
table_of v l h = record { level = λ i. get_or v i 0; low = λ i. get_or l i 0; high = λ i. get_or h i 0 }

-- Whether a number is that of a record of level k.
unfoldable pub is_at : Table → ℕ → ℕ → Bool
is_at T k x = not (ltb x 2) && eqb (T.level (x - 2)) k

-- The half of a number at column k, for a digit: a record of that level has a low and a high number; any other number
-- is its own half.
unfoldable pub child : Table → Bool → ℕ → ℕ
child T false x = T.low (x - 2)
child T true x = T.high (x - 2)

unfoldable pub half_of : Table → ℕ → Bool → ℕ → ℕ
half_of T k d x = cond (is_at T k x) (child T d x) x

-- The function of a number over the m columns from column k on.
unfoldable pub fn_of : Table → ℕ → (m : ℕ) → ℕ → Fn m
fn_of T k zero x = eqb x 1
fn_of T k (suc m) x = (fn_of T (k + 1) m (half_of T k false x), fn_of T (k + 1) m (half_of T k true x))

-- Whether a number is a constant, or one of the first c records with a level of at least k.
unfoldable pub refers : Table → ℕ → ℕ → ℕ → Bool
refers T c k x = ltb x 2 || (ltb (x - 2) c && not (ltb (T.level (x - 2)) k))

-- Whether record j has a level, a low and a high number.
unfoldable pub is_record : Table → ℕ → ℕ → ℕ → ℕ → Bool
is_record T j v l h = eqb (T.level j) v && eqb (T.low j) l && eqb (T.high j) h

-- The number of the record among the first c that has a level, a low and a high number, or 0 where none has.
unfoldable pub number_at : Table → ℕ → ℕ → ℕ → ℕ → ℕ
number_at T zero v l h = 0
number_at T (suc j) v l h = cond (is_record T j v l h) (j + 2) (number_at T j v l h)

-- Whether record i keeps its rule over the records before it: its level is below the number of columns n, low and high
-- differ, each is a constant or an earlier record of a greater level, and no earlier record is equal.
unfoldable pub good_record : ℕ → Table → ℕ → Bool
good_record n T i =
    ltb (T.level i) n &&
    not (eqb (T.low i) (T.high i)) &&
    refers T i (T.level i + 1) (T.low i) &&
    refers T i (T.level i + 1) (T.high i) &&
    eqb (number_at T i (T.level i) (T.low i) (T.high i)) 0

-- Whether the first c records keep their rule.
unfoldable pub good_table : ℕ → Table → ℕ → Bool
good_table n T zero = true
good_table n T (suc i) = good_table n T i && good_record n T i

-- The function of record i, over the columns from its level on.
unfoldable pub record_tree : ℕ → Table → ℕ → Tree
record_tree n T i = tree (n - T.level i) (fn_of T (T.level i) (n - T.level i) (i + 2))

-- The functions of the first c records, in order.
unfoldable pub functions : ℕ → Table → ℕ → List Tree
functions n T zero = []
functions n T (suc i) = functions n T i ++ (record_tree n T i ∷ [])

-- The function of a node of column k with given low and high numbers, where m more columns follow.
unfoldable pub node_fn : Table → ℕ → (m : ℕ) → ℕ → ℕ → Fn (suc m)
node_fn T k m l h = (fn_of T (k + 1) m l, fn_of T (k + 1) m h)

-- Two tables whose first c records are the same.
pub record Agree (T : Table) (T' : Table) (c : ℕ) : Type 0 where
  pub level : (j : ℕ) → j < c → T'.level j ≡ T.level j
  pub low : (j : ℕ) → j < c → T'.low j ≡ T.low j
  pub high : (j : ℕ) → j < c → T'.high j ≡ T.high j
