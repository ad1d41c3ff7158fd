-- Lists in the room as cube numbers, and what is asked to copy one.
use Rattle.std.specs.Prelude.{List, map, ℕ, ◌+◌, ◌-◌, ◌*◌, ◌^◌, ◌<◌, ◌≤◌, length, get_or}
use Rattle.rule.specs.Cube.{Cube}
use Rattle.rule.specs.Number.{cube_number}
use Rattle.listmemo.specs.declared.past.Found.{Found}

-- The numbers of cubes of the columns from column k on, with the literals chosen before them; w is the weight of column k.
unfoldable pub numbers_under : ℕ → ℕ → List Cube → List ℕ
numbers_under chosen w cs = map (λ c. chosen + w * cube_number c) cs

-- The copy ends before the new place, and its numbers can take the new literals for the old ones.
pub record Copyable (room : List ℕ) (from : ℕ) (at : ℕ) (size : ℕ) (old : ℕ) (chosen : ℕ) : Type 0 where
  pub before : from + size ≤ at
  pub place : at + size ≤ 2 ^ 32
  pub more : (i : ℕ) → i < size → from + i < length room → old ≤ get_or room (from + i) 0
  pub fits : (i : ℕ) → i < size → from + i < length room → get_or room (from + i) 0 - old + chosen < 2 ^ 32

abbrev pub CopyableOf : List ℕ → Found → ℕ → ℕ → Type 0
CopyableOf room f at chosen = Copyable room f.from at f.size f.literals chosen
