-- What a building function promises of the table and of its answer.
use Rattle.std.specs.Prelude.{◌≡◌, true, List, ℕ, ◌+◌, ◌<◌, ◌≤◌, length, Option, Some, None}
use Rattle.rule.specs.Func.{Fn}
use Rattle.rule.specs.Nodes.{nodes, add_all}
use Rattle.graph.specs.Table.{table_of, fn_of, refers, functions, Agree}
use Rattle.graph.specs.Sound.{Sound, Sized}

-- What is asked to make a node of column k: its low and high numbers refer at the next column.
pub record Halves (n : ℕ) (c : ℕ) (v : List ℕ) (l : List ℕ) (h : List ℕ) (k : ℕ) (a : ℕ) (b : ℕ) : Type 0 where
  pub sound : Sound n c v l h
  pub column : k < n
  pub first : refers (table_of v l h) c (k + 1) a ≡ true
  pub second : refers (table_of v l h) c (k + 1) b ≡ true

module _ (n : ℕ) (c : ℕ) (v : List ℕ) (l : List ℕ) (h : List ℕ) (v' : List ℕ) (l' : List ℕ) (h' : List ℕ) (k : ℕ) (m : ℕ) (f : Fn m) where
  -- A number: the table is sound and the records in use before are kept; the number's function over the m columns from
  -- column k on is f; and the functions of the records are those before with exactly the missing nodes of f added.
  pub record Built (x : ℕ) (c' : ℕ) : Type 0 where
    pub sound : Sound n c' v' l' h'
    pub length-kept : length v' ≡ length v
    pub more : c ≤ c'
    pub kept : Agree (table_of v l h) (table_of v' l' h') c
    pub number : refers (table_of v' l' h') c' k x ≡ true
    pub means : fn_of (table_of v' l' h') k m x ≡ f
    pub adds : functions n (table_of v' l' h') c' ≡ add_all (functions n (table_of v l h) c) (nodes m f)

  -- None: these do not fit. The records in use before are kept.
  pub record Lacking : Type 0 where
    pub sized : Sized c v' l' h'
    pub length-kept : length v' ≡ length v
    pub kept : Agree (table_of v l h) (table_of v' l' h') c
    pub lacks : length v < length (add_all (functions n (table_of v l h) c) (nodes m f))

  -- What was made, with the count of records in use after it.
  unfoldable pub MadeOf : ℕ → Option ℕ → Type 0
  MadeOf c' (Some x) = Built x c'
  MadeOf c' None = Lacking
