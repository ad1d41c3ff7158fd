-- Inclusion among lists joined of many parts. With the rules below `search parts depth 40 fits 9000` proves an `AllIn`
-- whose two sides are joined of the same dozen lists, in any order: it takes the list apart, and finds each part in turn.
use mathlib.Core.List.{List, ◌++◌}
use Rattle.rule.specs.Nodes.{Tree, add_all}
use Rattle.rule.proofs.Sets.{AllIn, all_in_itself, all_in_append, all_in_longer_first, all_in_longer_second, all_in_kept, all_in_added}

-- Where a list stands as a part of another, or of a set grown by that. It is no inclusion, so that the search does not
-- take a list apart again once it looks for it.
pub data Part (ts : List Tree) : List Tree → Type 0 where
  whole : Part ts ts
  in_first : (xs ys : List Tree) → Part ts xs → Part ts (xs ++ ys)
  in_second : (xs ys : List Tree) → Part ts ys → Part ts (xs ++ ys)
  in_kept : (S xs : List Tree) → Part ts S → Part ts (add_all S xs)
  in_added : (S xs : List Tree) → Part ts xs → Part ts (add_all S xs)

pub all_in_part : {ts S : List Tree} → Part ts S → AllIn S ts
all_in_part {ts} whole = all_in_itself ts
all_in_part (in_first xs ys p) = all_in_longer_first xs ys (all_in_part p)
all_in_part (in_second xs ys p) = all_in_longer_second xs ys (all_in_part p)
all_in_part (in_kept S xs p) = all_in_kept S xs (all_in_part p)
all_in_part (in_added S xs p) = all_in_added S xs (all_in_part p)

pub ruleset parts = (all_in_append, all_in_part, whole, in_first, in_second, in_kept, in_added)
