-- A table that is lent in three slices, to be read or to be built in: what is asked and promised of it, said of its slices.
use Rattle.std.specs.Prelude.{◌≡◌, Bool, List, ℕ, ◌≤◌, length, Option, Result}
use Rattle.rule.specs.Func.{Fn}
use Rattle.rule.specs.Refusal.{Condition, first_broken}
use Rattle.rule.specs.declared.refusal.Refusal.{Refusal}
use Rattle.graph.specs.Table.{Table, table_of}
use Rattle.graph.specs.Sound.{Sized, Held, Rooted, RootedTwice}
use Rattle.graph.specs.Chain.{Chained, Linkable}
use Rattle.graph.specs.Built.{Halves, MadeOf}
use Rattle.graph.specs.Entry.{cleared, Settled, Operated, count_after, table_conditions, input_conditions, value_conditions, value_answer}
use Rattle.graph.specs.declared.table.TableRef.{TableRef}
use Rattle.graph.specs.declared.table.Chains.{Chains}
use Rattle.graph.specs.declared.build.TableMut.{TableMut}

-- The table that stands in the slices.
abbrev pub read : TableRef → Table
read t = table_of t.level.now t.low.now t.high.now

abbrev pub table : TableMut → Table
table t = table_of t.level.now t.low.now t.high.now

-- What is asked of a table to be read.
abbrev pub SizedFor : TableRef → ℕ → Type 0
SizedFor t c = Sized c t.level.now t.low.now t.high.now

abbrev pub SizedIn : TableRef → Type 0
SizedIn t = SizedFor t t.count

abbrev pub HeldIn : TableRef → ℕ → Type 0
HeldIn t x = Held x t.level.now t.low.now t.high.now

abbrev pub RootIn : TableRef → ℕ → ℕ → Type 0
RootIn t k x = Rooted t.columns t.count t.level.now t.low.now t.high.now k x

abbrev pub RootsToRead : TableRef → ℕ → ℕ → ℕ → Type 0
RootsToRead t k a b = RootedTwice t.columns t.count t.level.now t.low.now t.high.now k a b

abbrev pub ChainedIn : TableRef → Chains → ℕ → Type 0
ChainedIn t s c = Chained c t.level.now t.low.now t.high.now s.last s.prev

abbrev pub LinkableIn : TableRef → Chains → ℕ → Type 0
LinkableIn t s i = Linkable i t.level.now t.low.now t.high.now s.last s.prev

-- What is asked of a table to be built in.
abbrev pub HalvesIn : TableMut → ℕ → ℕ → ℕ → Type 0
HalvesIn t k a b = Halves t.columns t.count t.level.now t.low.now t.high.now k a b

abbrev pub RootsIn : TableMut → ℕ → ℕ → ℕ → Type 0
RootsIn t k a b = RootedTwice t.columns t.count t.level.now t.low.now t.high.now k a b

-- The table to be read is the one to be built in.
pub record SharesIn (t : TableMut) (s : TableRef) : Type 0 where
  pub columns : s.columns ≡ t.columns
  pub count : s.count ≡ t.count
  pub level : s.level.now ≡ t.level.now
  pub low : s.low.now ≡ t.low.now
  pub high : s.high.now ≡ t.high.now

-- Afterwards the table has the same columns and the same slices, of the same lengths.
pub record SameSlices (t : TableMut) (t' : TableMut) : Type 0 where
  pub columns : t'.columns ≡ t.columns
  pub level : t'.level.ghost_name ≡ t.level.ghost_name
  pub low : t'.low.ghost_name ≡ t.low.ghost_name
  pub high : t'.high.ghost_name ≡ t.high.ghost_name
  pub level-long : length t'.level.now ≡ length t.level.now
  pub low-long : length t'.low.now ≡ length t.low.now
  pub high-long : length t'.high.now ≡ length t.high.now

-- The same of a table that was built in, whatever was answered: the count has not fallen, and fits the table if it did before.
pub record Grown (t : TableMut) (t' : TableMut) : Type 0 where
  pub columns : t'.columns ≡ t.columns
  pub level : t'.level.ghost_name ≡ t.level.ghost_name
  pub low : t'.low.ghost_name ≡ t.low.ghost_name
  pub high : t'.high.ghost_name ≡ t.high.ghost_name
  pub level-long : length t'.level.now ≡ length t.level.now
  pub low-long : length t'.low.now ≡ length t.low.now
  pub high-long : length t'.high.now ≡ length t.high.now
  pub more : t.count ≤ t'.count
  pub fits : t.count ≤ length t.level.now → t'.count ≤ length t'.level.now

-- What a building function makes of a table: a number, or nothing where there is no room for it.
abbrev pub MadeIn : TableMut → TableMut → ℕ → (m : ℕ) → Fn m → Option ℕ → Type 0
MadeIn t t' k m f r = MadeOf t.columns t.count t.level.now t.low.now t.high.now t'.level.now t'.low.now t'.high.now k m f t'.count r

-- The records past the first c are zero, and c are in use.
pub record GivenBack (c : ℕ) (t : TableMut) (t' : TableMut) : Type 0 where
  pub count : t'.count ≡ c
  pub level : t'.level.now ≡ cleared c t.level.now
  pub low : t'.low.now ≡ cleared c t.low.now
  pub high : t'.high.now ≡ cleared c t.high.now

-- What is asked to settle what was made, and the answer, with c records in use before it was made.
pub record SettleAsks (c : ℕ) (t : TableMut) (made : Option ℕ) : Type 0 where
  pub level : count_after made t.count c ≤ length t.level.now
  pub low : count_after made t.count c ≤ length t.low.now
  pub high : count_after made t.count c ≤ length t.high.now

abbrev pub SettledIn : Option ℕ → ℕ → TableMut → TableMut → Result ℕ Refusal → Type 0
SettledIn made c t t' a = Settled made c t.count t.level.now t.low.now t.high.now t'.count t'.level.now t'.low.now t'.high.now a

-- A building operation on a lent table, with the result f.
abbrev pub OperatedIn : (t : TableMut) → Bool → Fn t.columns → TableMut → Result ℕ Refusal → Type 0
OperatedIn t ranged f t' a = Operated t.columns t.count t.level.now t.low.now t.high.now ranged f t'.count t'.level.now t'.low.now t'.high.now a

-- What the entries ask of a lent table, and the value at a point.
abbrev pub table_tests : TableRef → List Condition
table_tests t = table_conditions t.columns t.count t.level.now t.low.now t.high.now

abbrev pub input_tests : TableRef → ℕ → ℕ → ℕ → List Condition
input_tests t a b size = input_conditions t.columns t.count t.level.now t.low.now t.high.now a b size

abbrev pub value_in : TableRef → ℕ → ℕ → Result Bool Refusal
value_in t x p =
    value_answer (first_broken (value_conditions t.columns t.count t.level.now t.low.now t.high.now x p)) t.columns
    t.level.now t.low.now t.high.now x p
