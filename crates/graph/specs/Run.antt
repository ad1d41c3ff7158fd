-- Runs: what building functions on a table one after the other promise together.
use Rattle.std.specs.Prelude.{◌≡◌, true, List, ℕ, ◌<◌, ◌≤◌, length}
use Rattle.rule.specs.Func.{Fn}
use Rattle.rule.specs.Nodes.{Tree, add_all}
use Rattle.graph.specs.Table.{table_of, fn_of, refers, functions, Agree}
use Rattle.graph.specs.Sound.{Sound, Sized}

module _ (n : ℕ) (c : ℕ) (v : List ℕ) (l : List ℕ) (h : List ℕ) (v' : List ℕ) (l' : List ℕ) (h' : List ℕ) where
  -- The table is sound, the records in use before are kept, and exactly the missing ones of some functions are added.
  pub record Run (ts : List Tree) (c' : ℕ) : Type 0 where
    pub sound : Sound n c' v' l' h'
    pub length-kept : length v' ≡ length v
    pub more : c ≤ c'
    pub kept : Agree (table_of v l h) (table_of v' l' h') c
    pub adds : functions n (table_of v' l' h') c' ≡ add_all (functions n (table_of v l h) c) ts

  -- These do not fit. The records in use before are kept.
  pub record Short (ts : List Tree) : Type 0 where
    pub sized : Sized c v' l' h'
    pub length-kept : length v' ≡ length v
    pub kept : Agree (table_of v l h) (table_of v' l' h') c
    pub lacks : length v < length (add_all (functions n (table_of v l h) c) ts)

-- A number in use over the m columns from column k on, and its function.
pub record Names (v : List ℕ) (l : List ℕ) (h : List ℕ) (c : ℕ) (k : ℕ) (m : ℕ) (f : Fn m) (x : ℕ) : Type 0 where
  pub number : refers (table_of v l h) c k x ≡ true
  pub means : fn_of (table_of v l h) k m x ≡ f
