-- Two operations one after the other: what they ask and promise together.
use Rattle.std.specs.Prelude.{List, ◌++◌, ℕ, Option, Some, None}
use Rattle.rule.specs.Func.{Fn, joined}
use Rattle.rule.specs.Nodes.{nodes}
use Rattle.graph.specs.Table.{table_of, fn_of}
use Rattle.graph.specs.Sound.{RootedTwice}
use Rattle.graph.specs.Run.{Run, Short, Names}
use Rattle.graph.specs.Operation.{op_of}
use Rattle.graph.specs.declared.operation.Op.{Op}
use Rattle.memo.specs.declared.build.Operations.{Operations}
use Rattle.steps.specs.declared.run.Task.{Task}

-- What two operations ask: both pairs of operands are in use.
pub record FourRoots (n : ℕ) (c : ℕ) (v : List ℕ) (l : List ℕ) (h : List ℕ) (k : ℕ) (a : ℕ) (b : ℕ) (d : ℕ) (e : ℕ) : Type 0 where
  pub first : RootedTwice n c v l h k a b
  pub second : RootedTwice n c v l h k d e

-- What two operations one after the other promise: both results, or that their nodes do not fit.
module _ (n : ℕ) (c : ℕ) (v : List ℕ) (l : List ℕ) (h : List ℕ) (v' : List ℕ) (l' : List ℕ) (h' : List ℕ) (k : ℕ) (m : ℕ) (f : Fn m) (g : Fn m) where
  pub record TwoDone (x : ℕ) (y : ℕ) (c' : ℕ) : Type 0 where
    pub run : Run n c v l h v' l' h' (nodes m f ++ nodes m g) c'
    pub first : Names v' l' h' c' k m f x
    pub second : Names v' l' h' c' k m g y

  unfoldable pub TwoOf : ℕ → Option (ℕ × ℕ) → Type 0
  TwoOf c' (Some r) = TwoDone r.0 r.1 c'
  TwoOf c' None = Short n c v l h v' l' h' (nodes m f ++ nodes m g)

-- The operation of two numbers' functions.
unfoldable pub result_of : Op → List ℕ → List ℕ → List ℕ → ℕ → (m : ℕ) → ℕ → ℕ → Fn m
result_of op v l h k m a b = joined (op_of op) m (fn_of (table_of v l h) k m a) (fn_of (table_of v l h) k m b)

-- The same of a table with its memo.
abbrev pub FourRootsIn : Operations → ℕ → Task → Task → Type 0
FourRootsIn o k p q = FourRoots o.table.now.columns o.table.now.count o.table.now.level.now o.table.now.low.now o.table.now.high.now k p.a p.b q.a q.b

abbrev pub result_in : Operations → Task → ℕ → (m : ℕ) → Fn m
result_in o p k m = result_of p.op o.table.now.level.now o.table.now.low.now o.table.now.high.now k m p.a p.b

abbrev pub TwoIn : Operations → Operations → ℕ → ℕ → Task → Task → Option (ℕ × ℕ) → Type 0
TwoIn o o' k m p q r =
    TwoOf o.table.now.columns o.table.now.count o.table.now.level.now o.table.now.low.now o.table.now.high.now
    o'.table.now.level.now o'.table.now.low.now o'.table.now.high.now k m (result_in o p k m) (result_in o q k m) o'.table.now.count r
