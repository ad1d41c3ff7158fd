-- What the functions of the checker ask and promise. A search promises its fault for all functions whose table it is given.
use Rattle.std.specs.Prelude.{◌≡◌, Bool, true, ◌&&◌, List, map, ℕ, ◌+◌, ◌-◌, ◌<◌, ◌≤◌, length, get_or}
use Rattle.rule.specs.Func.{Fn, constant, less, within}
use Rattle.rule.specs.Cube.{Cube, cube_fn, covered, has_literal, without_literal}
use Rattle.rule.specs.Number.{signs, well_formed}
use Rattle.rule.specs.Verdict.{first, fault_a, fault_b, fault_c, fault_d, verdict_numbers}
use Rattle.graph.specs.Sound.{Rooted, RootedTwice}
use Rattle.graph.specs.Table.{table_of, fn_of}
use Rattle.words.specs.Word.{words, size}
use Rattle.words.specs.Faults.{covered_twice}
use Rattle.graph.specs.declared.table.TableRef.{TableRef}
use Rattle.checker.specs.Judging.{Judged, judged_as, judged_fault, place_number}

-- A number over the columns from column k on, at most six of them.
pub record RootWord (n c : ℕ) (v l h : List ℕ) (k x : ℕ) : Type 0 where
  pub root : Rooted n c v l h k x
  pub few : n ≤ k + 6

-- A number over the columns from column k on, and a slice as long as its table.
pub record RootTable (n c : ℕ) (v l h : List ℕ) (k x : ℕ) (s : List ℕ) : Type 0 where
  pub root : Rooted n c v l h k x
  pub long : length s ≡ size (n - k)

-- A table of m columns to be searched for the cubes of a list.
pub record Searched (m : ℕ) (xs list : List ℕ) : Type 0 where
  pub columns : m ≤ 16
  pub long : length xs ≡ size m
  pub room : length list ≤ 16384

-- A table of m columns to be searched for a cube with the literal of column k turned over.
pub record Turning (m k : ℕ) (xs : List ℕ) : Type 0 where
  pub columns : m ≤ 16
  pub long : length xs ≡ size m
  pub column : k < m

-- The cubes of a list of numbers.
abbrev pub cubes : ℕ → List ℕ → List Cube
cubes m list = map (signs m) list

-- The table of the points outside U.
abbrev pub off_words : (m : ℕ) → Fn m → List ℕ
off_words m U = words m (less m (constant m true) U)

-- (a) In the off table.
pub record OffFound (m : ℕ) (xs list : List ℕ) (r : Judged) : Type 0 where
  pub fault : (L U : Fn m) → xs ≡ off_words m U → r ≡ judged_fault (fault_a m L U (cubes m list))

-- (b) In the table of the on points that are not covered.
pub record MissingFound (m : ℕ) (xs : List ℕ) (r : Judged) : Type 0 where
  pub fault : (L U : Fn m) (cs : List Cube) → xs ≡ words m (less m L (covered m cs)) → r ≡ judged_fault (fault_b m L U cs)

-- Whether the literal of column k of a cube can go without covering an off point.
unfoldable pub column_goes : (m : ℕ) → Fn m → Cube → ℕ → Bool
column_goes m U c k = has_literal c k && within m (cube_fn m (without_literal c k)) U

-- (c) In the off table, once the cube is well formed and covers no off point.
pub record GoesFound (m : ℕ) (xs : List ℕ) (x k : ℕ) (r : Bool) : Type 0 where
  pub answer : (U : Fn m) → xs ≡ off_words m U → well_formed m x ≡ true → within m (cube_fn m (signs m x)) U ≡ true
      → r ≡ column_goes m U (signs m x) k

pub record ColumnFound (m : ℕ) (xs : List ℕ) (x r : ℕ) : Type 0 where
  pub bound : r ≤ m
  pub answer : (U : Fn m) → xs ≡ off_words m U → well_formed m x ≡ true → within m (cube_fn m (signs m x)) U ≡ true
      → r ≡ place_number (first (column_goes m U (signs m x)) m)

-- Every cube of a list is well formed, and covers no off point.
pub record Formed (m : ℕ) (list : List ℕ) : Type 0 where
  pub formed : (i : ℕ) → i < length list → well_formed m (get_or list i 0) ≡ true

pub record NoneOff (m : ℕ) (U : Fn m) (list : List ℕ) : Type 0 where
  pub inside : (i : ℕ) → i < length list → within m (cube_fn m (signs m (get_or list i 0))) U ≡ true

pub record LiteralFound (m : ℕ) (xs list : List ℕ) (r : Judged) : Type 0 where
  pub fault : (L U : Fn m) → xs ≡ off_words m U → Formed m list → NoneOff m U list → r ≡ judged_fault (fault_c m L U (cubes m list))

-- (d) In the table of the on points that are not covered twice, once all are covered.
pub record CubeFound (m : ℕ) (xs list : List ℕ) (r : Judged) : Type 0 where
  pub fault : (L U : Fn m) → xs ≡ words m (less m L (covered_twice m (cubes m list))) → within m L (covered m (cubes m list)) ≡ true
      → r ≡ judged_fault (fault_d m L U (cubes m list))

-- The tables of what a list covers, and covers twice.
pub record Covered (m : ℕ) (list once again : List ℕ) : Type 0 where
  pub covers : once ≡ words m (covered m (cubes m list))
  pub twice : again ≡ words m (covered_twice m (cubes m list))

-- The four tables and a list of at most 16,384 cubes.
pub record Rooms (m : ℕ) (on off once again list : List ℕ) : Type 0 where
  pub columns : m ≤ 16
  pub on-long : length on ≡ size m
  pub off-long : length off ≡ size m
  pub first : length once ≡ size m
  pub second : length again ≡ size m
  pub room : length list ≤ 16384

-- The verdict on a list of well-formed cubes, for all functions whose on and off tables are given.
pub record FaultsFound (m : ℕ) (on off list : List ℕ) (r : Judged) : Type 0 where
  pub verdict : (L U : Fn m) → on ≡ words m L → off ≡ off_words m U → Formed m list → r ≡ judged_as (verdict_numbers m L U list)

-- Two roots, and slices as long as their tables.
pub record RootTables (n c : ℕ) (v l h : List ℕ) (a b : ℕ) (on off : List ℕ) : Type 0 where
  pub roots : RootedTwice n c v l h 0 a b
  pub on-long : length on ≡ size n
  pub off-long : length off ≡ size n

-- The tables of L and of the points outside U.
pub record TablesFilled (n : ℕ) (v l h : List ℕ) (a b : ℕ) (on off : List ℕ) : Type 0 where
  pub on-table : on ≡ words n (fn_of (table_of v l h) 0 n a)
  pub off-table : off ≡ off_words n (fn_of (table_of v l h) 0 n b)

-- Two roots and a list of at most 16,384 well-formed cubes.
pub record Judging (n c : ℕ) (v l h : List ℕ) (a b : ℕ) (list : List ℕ) : Type 0 where
  pub roots : RootedTwice n c v l h 0 a b
  pub room : length list ≤ 16384
  pub formed : Formed n list

pub record VerdictGiven (n : ℕ) (v l h : List ℕ) (a b : ℕ) (list : List ℕ) (r : Judged) : Type 0 where
  pub verdict : r ≡ judged_as (verdict_numbers n (fn_of (table_of v l h) 0 n a) (fn_of (table_of v l h) 0 n b) list)

-- The same of a lent table.
abbrev pub RootWordIn : TableRef → ℕ → ℕ → Type 0
RootWordIn t k x = RootWord t.columns t.count t.level.now t.low.now t.high.now k x

abbrev pub RootTableIn : TableRef → ℕ → ℕ → List ℕ → Type 0
RootTableIn t k x s = RootTable t.columns t.count t.level.now t.low.now t.high.now k x s

abbrev pub RootTablesIn : TableRef → ℕ → ℕ → List ℕ → List ℕ → Type 0
RootTablesIn t a b on off = RootTables t.columns t.count t.level.now t.low.now t.high.now a b on off

abbrev pub TablesFilledIn : TableRef → ℕ → ℕ → List ℕ → List ℕ → Type 0
TablesFilledIn t a b on off = TablesFilled t.columns t.level.now t.low.now t.high.now a b on off

abbrev pub JudgingIn : TableRef → ℕ → ℕ → List ℕ → Type 0
JudgingIn t a b list = Judging t.columns t.count t.level.now t.low.now t.high.now a b list

abbrev pub VerdictGivenIn : TableRef → ℕ → ℕ → List ℕ → Judged → Type 0
VerdictGivenIn t a b list r = VerdictGiven t.columns t.level.now t.low.now t.high.now a b list r
