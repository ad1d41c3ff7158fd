-- What the functions of the generator promise, step by step of the list rule.
use Rattle.std.specs.Prelude.{◌≡◌, true, List, ◌++◌, ℕ, suc, ◌+◌, ◌-◌, ◌*◌, ◌^◌, ◌<◌, ◌≤◌, length, set, Option, Some, None}
use Rattle.std.proofs.lemmas.List.Edits.{sets}
use Rattle.rule.specs.Func.{Fn, within}
use Rattle.rule.specs.Cube.{Cube, covered}
use Rattle.rule.specs.Nodes.{Tree, nodes, named}
use Rattle.rule.specs.Rule.{p0_of, p1_of, g0_of, g1_of, r0_of, r1_of, r0_or_r1, u0_and_u1, g_star, list_of, result}
use Rattle.graph.specs.Table.{table_of, fn_of}
use Rattle.graph.specs.Sound.{RootedTwice}
use Rattle.graph.specs.Run.{Run, Short, Names}
use Rattle.memo.specs.Memo.{Holds}
use Rattle.steps.specs.Step.{named_kept}
use Rattle.listmemo.specs.Copy.{numbers_under}
use Rattle.listmemo.specs.Past.{Keeps}
use Rattle.graph.specs.Lent.{table}
use Rattle.graph.specs.declared.build.TableMut.{TableMut}
use Rattle.memo.specs.Memo.{SameTable}
use Rattle.listmemo.specs.Copy.{Copyable}
use Rattle.listmemo.specs.declared.past.Entry.{Entry}
use Rattle.listmemo.specs.declared.past.Found.{Found}
use Rattle.steps.specs.declared.step.Covers.{Covers}
use Rattle.list.specs.declared.generator.Generator.{Generator}
use Rattle.list.specs.declared.generator.Path.{Path}

-- The functions that a step names with its first list, with the second, between them and the third, and with the third, in order.
module _ (m : ℕ) (L : Fn (suc m)) (U : Fn (suc m)) where
  unfoldable pub named_a : List Tree
  named_a = named_kept m L U ++ named m (p0_of m (list_of m) L U) U.0 ++ nodes m (g0_of m (list_of m) L U)

  unfoldable pub named_b : List Tree
  named_b = named_a ++ named m (p1_of m (list_of m) L U) U.1 ++ nodes m (g1_of m (list_of m) L U)

  unfoldable pub named_rest : List Tree
  named_rest =
      named_b ++ nodes m (r0_of m (list_of m) L U) ++
      nodes m (r1_of m (list_of m) L U) ++
      nodes m (r0_or_r1 m (list_of m) L U) ++
      nodes m (u0_and_u1 m (list_of m) L U)

  unfoldable pub named_c : List Tree
  named_c = named_rest ++ named m (r0_or_r1 m (list_of m) L U) (u0_and_u1 m (list_of m) L U) ++ nodes m (g_star m (list_of m) L U)

-- What is asked to list: the roots are in use and lie within each other; the weight is that of the column; the literals
-- chosen are of columns before it; and the place leaves room to count.
pub record Listable (n : ℕ) (c : ℕ) (v : List ℕ) (l : List ℕ) (h : List ℕ) (at : ℕ) (chosen : ℕ) (w : ℕ) (k : ℕ) (a : ℕ) (b : ℕ) : Type 0 where
  pub roots : RootedTwice n c v l h k a b
  pub inside : (m : ℕ) → k + m ≡ n → within m (fn_of (table_of v l h) k m a) (fn_of (table_of v l h) k m b) ≡ true
  pub weight : w ≡ 2 ^ k
  pub literals : chosen + 65536 ≤ 65536 * w
  pub place : at + 3 ^ (n - k) ≤ 2 ^ 32

-- The same where a column is left to expand.
pub record Expandable (n : ℕ) (c : ℕ) (v : List ℕ) (l : List ℕ) (h : List ℕ) (at : ℕ) (chosen : ℕ) (w : ℕ) (k : ℕ) (a : ℕ) (b : ℕ) : Type 0 where
  pub listable : Listable n c v l h at chosen w k a b
  pub column : k < n

module _ (n : ℕ) (c : ℕ) (v : List ℕ) (l : List ℕ) (h : List ℕ) (v' : List ℕ) (l' : List ℕ) (h' : List ℕ) (room : List ℕ) (room' : List ℕ) (at : ℕ) (chosen : ℕ) (w : ℕ) (k : ℕ) where
  -- The three lists of a step, with the covers of each.
  pub record ListsDone (m : ℕ) (L : Fn (suc m)) (U : Fn (suc m)) (g0 : ℕ) (g1 : ℕ) (gs : ℕ) (c' : ℕ) (at' : ℕ) : Type 0 where
    pub run : Run n c v l h v' l' h' (named_c m L U) c'
    pub cover0 : Names v' l' h' c' (k + 1) m (g0_of m (list_of m) L U) g0
    pub cover1 : Names v' l' h' c' (k + 1) m (g1_of m (list_of m) L U) g1
    pub cover_c : Names v' l' h' c' (k + 1) m (g_star m (list_of m) L U) gs
    pub written : room' ≡ sets room at (numbers_under chosen w (result m (list_of m) L U))
    pub place : at' ≡ at + length (result m (list_of m) L U)

  pub record ListsFull (m : ℕ) (L : Fn (suc m)) (U : Fn (suc m)) : Type 0 where
    pub short : Short n c v l h v' l' h' (named_c m L U)
    pub room-kept : length room' ≡ length room

  -- The covers of the lists, with the count of records in use and the place after the lists.
  unfoldable pub ListsOf : (m : ℕ) → Fn (suc m) → Fn (suc m) → ℕ → ℕ → Option Covers → Type 0
  ListsOf m L U c' at' (Some g) = ListsDone m L U g.g0 g.g1 g.gs c' at'
  ListsOf m L U c' at' None = ListsFull m L U

  -- The list of the rule, with its cover: exactly what the rule names is named, the list's numbers are written from the
  -- place on as far as the room goes, and the place moves on by the list's length.
  pub record ListedDone (m : ℕ) (L : Fn m) (U : Fn m) (g : ℕ) (c' : ℕ) (at' : ℕ) : Type 0 where
    pub run : Run n c v l h v' l' h' (named m L U) c'
    pub cover : Names v' l' h' c' k m (covered m (list_of m L U)) g
    pub written : room' ≡ sets room at (numbers_under chosen w (list_of m L U))
    pub place : at' ≡ at + length (list_of m L U)

  -- What the rule names does not fit.
  pub record ListedFull (m : ℕ) (L : Fn m) (U : Fn m) : Type 0 where
    pub short : Short n c v l h v' l' h' (named m L U)
    pub room-kept : length room' ≡ length room

  unfoldable pub ListedOf : (m : ℕ) → Fn m → Fn m → ℕ → ℕ → Option ℕ → Type 0
  ListedOf m L U c' at' (Some g) = ListedDone m L U g c' at'
  ListedOf m L U c' at' None = ListedFull m L U

-- Both memos are right: that of operations in the table, that of lists in the table and in the room before a place.
pub record Memos (n : ℕ) (c : ℕ) (v : List ℕ) (l : List ℕ) (h : List ℕ) (room : List ℕ) (at : ℕ) (memo : List ℕ) (past : List Entry) : Type 0 where
  pub operations : Holds n c v l h memo
  pub lists : Keeps n c v l h room at past

-- They are right where the lists are done, whatever is answered. Where there is no room for nodes, nothing is said of them.
unfoldable pub MemosAfter : {A : Type 0} → ℕ → ℕ → List ℕ → List ℕ → List ℕ → List ℕ → ℕ → List ℕ → List Entry → Option A → Type 0
MemosAfter n c v l h room at memo past (Some x) = Memos n c v l h room at memo past
MemosAfter n c v l h room at memo past None = Unit {0}

-- Afterwards a generator has the same operations with the same table, and the same room, of the same length.
pub record SameRooms (g : Generator) (g' : Generator) : Type 0 where
  pub operations : g'.operations.ghost_name ≡ g.operations.ghost_name
  pub table : SameTable g.operations.now g'.operations.now
  pub room : g'.room.ghost_name ≡ g.room.ghost_name
  pub long : length g'.room.now ≡ length g.room.now

-- The path to the next column, where its literals fit a cube.
pub record NextFits (p : Path) (literal : ℕ) : Type 0 where
  pub column : p.k + 1 < 2 ^ 16
  pub weight : 2 * p.weight < 2 ^ 32
  pub literals : p.chosen + literal < 2 ^ 32

abbrev pub next_path : Path → ℕ → Path
next_path p literal = record { k = p.k + 1; weight = 2 * p.weight; chosen = p.chosen + literal }

-- A cube is put down, or a list copied, at the place: the room and the place change, and nothing else does.
pub record PutIn (g : Generator) (cube : ℕ) (g' : Generator) : Type 0 where
  pub room : g'.room.now ≡ set g.room.now g.at cube
  pub place : g'.at ≡ g.at + 1
  pub operations : g'.operations.now ≡ g.operations.now
  pub past : g'.past ≡ g.past

abbrev pub CopyableIn : Generator → Found → ℕ → Type 0
CopyableIn g f chosen = Copyable g.room.now f.from g.at f.size f.literals chosen

pub record CopiedIn (g : Generator) (f : Found) (chosen : ℕ) (g' : Generator) : Type 0 where
  pub room : (w : ℕ) (cs : List Cube) → length cs ≡ f.size → sets g.room.now f.from (numbers_under f.literals w cs) ≡ g.room.now →
      g'.room.now ≡ sets g.room.now g.at (numbers_under chosen w cs)
  pub place : g'.at ≡ g.at + f.size
  pub operations : g'.operations.now ≡ g.operations.now
  pub past : g'.past ≡ g.past

-- The same of a generator's rooms.
abbrev pub ListableIn : Generator → Path → ℕ → ℕ → Type 0
ListableIn g p a b =
    let t = g.operations.now.table.now in
    Listable t.columns t.count t.level.now t.low.now t.high.now g.at p.chosen p.weight p.k a b

abbrev pub ExpandableIn : Generator → Path → ℕ → ℕ → Type 0
ExpandableIn g p a b =
    let t = g.operations.now.table.now in
    Expandable t.columns t.count t.level.now t.low.now t.high.now g.at p.chosen p.weight p.k a b

abbrev pub MemosIn : Generator → Type 0
MemosIn g =
    let t = g.operations.now.table.now in
    Memos t.columns t.count t.level.now t.low.now t.high.now g.room.now g.at g.operations.now.memo.entries g.past.entries

abbrev pub MemosAfterIn : {A : Type 0} → Generator → Option A → Type 0
MemosAfterIn g r =
    let t = g.operations.now.table.now in
    MemosAfter t.columns t.count t.level.now t.low.now t.high.now g.room.now g.at g.operations.now.memo.entries g.past.entries r

abbrev pub ListsIn : Generator → Generator → Path → ℕ → ℕ → ℕ → Option Covers → Type 0
ListsIn g g' p m a b r =
    let t = g.operations.now.table.now in
    let t' = g'.operations.now.table.now in
    ListsOf t.columns t.count t.level.now t.low.now t.high.now t'.level.now t'.low.now t'.high.now
    g.room.now g'.room.now g.at p.chosen p.weight p.k m (fn_of (table t) p.k (suc m) a) (fn_of (table t) p.k (suc m) b) t'.count g'.at r

abbrev pub ListedIn : Generator → Generator → Path → ℕ → ℕ → ℕ → Option ℕ → Type 0
ListedIn g g' p m a b r =
    let t = g.operations.now.table.now in
    let t' = g'.operations.now.table.now in
    ListedOf t.columns t.count t.level.now t.low.now t.high.now t'.level.now t'.low.now t'.high.now
    g.room.now g'.room.now g.at p.chosen p.weight p.k m (fn_of (table t) p.k m a) (fn_of (table t) p.k m b) t'.count g'.at r

-- What is asked to fill a room: two roots in use, one within the other.
pub record Nested (t : TableMut) (a : ℕ) (b : ℕ) : Type 0 where
  pub roots : RootedTwice t.columns t.count t.level.now t.low.now t.high.now 0 a b
  pub inside : within t.columns (fn_of (table t) 0 t.columns a) (fn_of (table t) 0 t.columns b) ≡ true

-- The list stands in the room from its start on, as far as the room goes, and this is its length; or what the rule names does
-- not fit.
module _ (t : TableMut) (a : ℕ) (b : ℕ) (room : List ℕ) (t' : TableMut) (room' : List ℕ) where
  unfoldable pub FilledIn : Option ℕ → Type 0
  FilledIn (Some size) =
      (g : ℕ) ×
      ListedDone t.columns t.count t.level.now t.low.now t.high.now t'.level.now t'.low.now t'.high.now room room' 0 0 1 0
      t.columns (fn_of (table t) 0 t.columns a) (fn_of (table t) 0 t.columns b) g t'.count size
  FilledIn None =
      ListedFull t.columns t.count t.level.now t.low.now t.high.now t'.level.now t'.low.now t'.high.now room room' 0 0 1 0
      t.columns (fn_of (table t) 0 t.columns a) (fn_of (table t) 0 t.columns b)
