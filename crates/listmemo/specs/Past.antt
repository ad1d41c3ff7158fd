-- The memo of lists. An entry says of two roots, from one column on, that everything under them is in the table, which number
-- covers their list, how long the list is and where it stands in the room. It stays true while records are only added and
-- cubes are only put down from the place `at` on.
use Rattle.std.specs.Prelude.{◌≡◌, true, List, ℕ, ◌+◌, ◌*◌, ◌^◌, ◌<◌, ◌≤◌, length, slice_index_or, Option, Some, None}
use Rattle.std.proofs.lemmas.List.Edits.{sets}
use Rattle.rule.specs.Func.{Fn}
use Rattle.rule.specs.Cube.{covered}
use Rattle.rule.specs.Nodes.{named, add_all}
use Rattle.rule.specs.Rule.{list_of}
use Rattle.graph.specs.Table.{table_of, fn_of, refers, functions}
use Rattle.graph.specs.Run.{Names}
use Rattle.listmemo.specs.Copy.{numbers_under}
use Rattle.listmemo.specs.declared.past.Found as found
use Rattle.listmemo.specs.declared.past.Entry as entry

-- The key of an entry: two roots and the column. No key is 0.
unfoldable pub key_of : ℕ → ℕ → ℕ → ℕ
key_of a b k = ((65536 + a) * 65536 + b) * 64 + k

-- No entry: its key is 0.
unfoldable pub no_entry : entry.Entry
no_entry = record { key = 0; found = record { cover = 0; from = 0; size = 0; literals = 0 } }

module _ (n : ℕ) (c : ℕ) (v : List ℕ) (l : List ℕ) (h : List ℕ) (room : List ℕ) (at : ℕ) where
  -- The list of the rule for L and U stands in the room from a place on, under the literals of a path: to write it there
  -- again would change nothing.
  pub record Written (k : ℕ) (g : ℕ) (from : ℕ) (size : ℕ) (old : ℕ) (m : ℕ) (L : Fn m) (U : Fn m) : Type 0 where
    pub there : add_all (functions n (table_of v l h) c) (named m L U) ≡ functions n (table_of v l h) c
    pub cover : Names v l h c k m (covered m (list_of m L U)) g
    pub long : size ≡ length (list_of m L U)
    pub copy : sets room from (numbers_under old (2 ^ k) (list_of m L U)) ≡ room

  -- What is claimed of two roots.
  pub record Stands (a : ℕ) (b : ℕ) (k : ℕ) (g : ℕ) (from : ℕ) (size : ℕ) (old : ℕ) : Type 0 where
    pub lower : refers (table_of v l h) c k a ≡ true
    pub upper : refers (table_of v l h) c k b ≡ true
    pub before : from + size ≤ at
    pub list : (m : ℕ) → k + m ≡ n → Written k g from size old m (fn_of (table_of v l h) k m a) (fn_of (table_of v l h) k m b)

  -- An entry is right if what it says is so; a key that is 0 says nothing.
  pub record Entry (e : entry.Entry) : Type 0 where
    pub says : (a : ℕ) (b : ℕ) (k : ℕ) → a < 65536 → b < 65536 → k < 64 → e.key ≡ key_of a b k →
        Stands a b k e.found.cover e.found.from e.found.size e.found.literals

  -- 512 right entries.
  pub record Keeps (past : List entry.Entry) : Type 0 where
    pub long : length past ≡ 512
    pub each : (i : ℕ) → i < 512 → Entry (slice_index_or past i no_entry)

  -- What is found is so.
  unfoldable pub FoundOf : ℕ → ℕ → ℕ → Option found.Found → Type 0
  FoundOf a b k (Some f) = Stands a b k f.cover f.from f.size f.literals
  FoundOf a b k None = Unit {0}
