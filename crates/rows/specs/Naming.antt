-- Rows named one after the other: the sets so far, the records, and what does not fit.
use Rattle.std.specs.Prelude.{◌≡◌, List, [], ◌++◌, ℕ, ◌<◌, length, Option, Some, None}
use Rattle.rule.specs.Func.{Fn, either}
use Rattle.rule.specs.Nodes.{nodes, add_all}
use Rattle.rule.specs.Rows as Rows
use Rattle.rule.specs.Cube.{cube_fn}
use Rattle.rule.specs.Number.{signs}
use Rattle.graph.specs.Table.{table_of, fn_of, functions}
use Rattle.graph.specs.Sound.{Sound, Sized, Rooted, RootedTwice}
use Rattle.graph.specs.Lent.{table}
use Rattle.graph.specs.Run.{Run, Short, Names}
use Rattle.graph.specs.declared.build.TableMut.{TableMut}
use Rattle.line.specs.Meaning.{kind_of, out_of}
use Rattle.line.specs.declared.meaning.Kind.{Kind}
use Rattle.line.specs.declared.meaning.Out.{Out}
use Rattle.memo.specs.declared.build.Operations.{Operations}
use Rattle.rows.specs.declared.naming.Part.{Part}
use Rattle.rows.specs.declared.naming.Part.TheVariants.{On, Other}
use Rattle.rows.specs.declared.naming.Sets.{Sets}

-- The part that a row adds to, by the code's name: besides on there is one other set, don't care or off.
unfoldable pub part_by : Rows.Part → Option Part
part_by Rows.on = Some On
part_by Rows.dont_care = Some Other
part_by Rows.off = Some Other
part_by Rows.none = None

unfoldable pub part_for : Kind → Out → Option Part
part_for t o = part_by (Rows.part (kind_of t) (out_of o))

-- Which part the other set is.
unfoldable pub other_part : Rows.Kind → Rows.Part
other_part Rows.f = Rows.dont_care
other_part Rows.fd = Rows.dont_care
other_part Rows.fr = Rows.off

-- A cube f named, then the set g with it.
module _ (n : ℕ) (c : ℕ) (v : List ℕ) (l : List ℕ) (h : List ℕ) (v' : List ℕ) (l' : List ℕ) (h' : List ℕ) (g : Fn n) (f : Fn n) where
  pub record Joined (x : ℕ) (c' : ℕ) : Type 0 where
    pub run : Run n c v l h v' l' h' (nodes n f ++ nodes n (either n g f)) c'
    pub names : Names v' l' h' c' 0 n (either n g f) x

  unfoldable pub JoinedOf : ℕ → Option ℕ → Type 0
  JoinedOf c' (Some x) = Joined x c'
  JoinedOf c' None = Short n c v l h v' l' h' (nodes n f ++ nodes n (either n g f))

-- Some rows of a text of n columns and type t are named, from an empty table on: their on set and their other set have
-- numbers, and the records are exactly the nodes that the rows name, in order.
pub record Named (n : ℕ) (t : Rows.Kind) (rows : List Rows.Row) (v : List ℕ) (l : List ℕ) (h : List ℕ) (on : ℕ) (other : ℕ) (c : ℕ) : Type 0 where
  pub sound : Sound n c v l h
  pub lower : Names v l h c 0 n (Rows.set_of n t Rows.on rows) on
  pub second : Names v l h c 0 n (Rows.set_of n t (other_part t) rows) other
  pub adds : functions n (table_of v l h) c ≡ add_all [] (Rows.named_after n t [] rows)

-- What naming rows in a table of some length promises: they are named, or their nodes do not fit.
pub record Unnamed (n : ℕ) (t : Rows.Kind) (rows : List Rows.Row) (room : ℕ) (v : List ℕ) (l : List ℕ) (h : List ℕ) : Type 0 where
  pub sized : Sized 0 v l h
  pub lacks : room < length (add_all [] (Rows.named_after n t [] rows))

module _ (n : ℕ) (t : Rows.Kind) (rows : List Rows.Row) (room : ℕ) (v : List ℕ) (l : List ℕ) (h : List ℕ) where
  unfoldable pub NamedOf : ℕ → Option Sets → Type 0
  NamedOf c (Some s) = (length v ≡ room) × Named n t rows v l h s.on s.other c
  NamedOf c None = (length v ≡ room) × Unnamed n t rows room v l h

-- The same of a lent table, with its memo.
abbrev pub SoundFrom : TableMut → ℕ → Type 0
SoundFrom t k = Rooted t.columns t.count t.level.now t.low.now t.high.now k 1

abbrev pub SetIn : Operations → ℕ → Type 0
SetIn o x =
    let t = o.table.now in
    Rooted t.columns t.count t.level.now t.low.now t.high.now 0 x

abbrev pub SetsIn : Operations → Sets → Type 0
SetsIn o s =
    let t = o.table.now in
    RootedTwice t.columns t.count t.level.now t.low.now t.high.now 0 s.on s.other

abbrev pub JoinedIn : Operations → Operations → ℕ → ℕ → Option ℕ → Type 0
JoinedIn o o' set cube r =
    let t = o.table.now in
    let t' = o'.table.now in
    JoinedOf t.columns t.count t.level.now t.low.now t.high.now t'.level.now t'.low.now t'.high.now
    (fn_of (table t) 0 t.columns set) (cube_fn t.columns (signs t.columns cube)) t'.count r

abbrev pub NamedIn : Operations → Rows.Kind → List Rows.Row → Sets → Type 0
NamedIn o k rows s =
    let t = o.table.now in
    Named t.columns k rows t.level.now t.low.now t.high.now s.on s.other t.count

abbrev pub NamedAfterIn : Operations → Operations → Rows.Kind → List Rows.Row → Option Sets → Type 0
NamedAfterIn o o' k rows r =
    let t = o.table.now in
    let t' = o'.table.now in
    NamedOf t.columns k rows (length t.level.now) t'.level.now t'.low.now t'.high.now t'.count r
