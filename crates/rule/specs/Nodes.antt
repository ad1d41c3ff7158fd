-- Nodes: which functions a function needs as records, sets of them without repeats, and the node need of a generation.
use Rattle.std.specs.Prelude.{Bool, true, false, cond, ◌&&◌, List, [], ◌∷◌, ◌++◌, ℕ, zero, suc, length}
use Rattle.std.specs.Bool.{beq}
use Rattle.rule.specs.Func.{Fn, always, same}
use Rattle.rule.specs.Rule.{list_of, steps, leave_out, idle, leftmost}
use Rattle.rule.specs.Rule.{p0_of, p1_of, g0_of, g1_of, r0_of, r1_of, r0_or_r1, u0_and_u1, g_star, g_of}
use Rattle.rule.specs.Cube.{Cube}

-- A function of however many columns, as a tree of its halves: what nodes of different levels are compared by.
pub data Tree : Type 0 where
  leaf : Bool → Tree
  fork : Tree → Tree → Tree

unfoldable pub tree : (m : ℕ) → Fn m → Tree
tree zero f = leaf f
tree (suc m) f = fork (tree m f.0) (tree m f.1)

-- Whether two trees are equal.
unfoldable pub same_tree : Tree → Tree → Bool
same_tree (leaf a) (leaf b) = beq a b
same_tree (leaf a) (fork s t) = false
same_tree (fork q r) (leaf b) = false
same_tree (fork q r) (fork s t) = same_tree q s && same_tree r t

-- A function, unless its halves are equal: then it is its half, and no node of its own.
unfoldable pub own : Bool → Tree → List Tree
own true t = []
own false t = t ∷ []

-- The nodes of a function: the non-constant functions got by fixing its first columns, each at the column on which it
-- depends first; those of the halves, then the function itself.
unfoldable pub nodes : (m : ℕ) → Fn m → List Tree
nodes zero f = []
nodes (suc m) f = nodes m f.0 ++ nodes m f.1 ++ own (same m f.0 f.1) (tree (suc m) f)

-- Whether a set has a function.
unfoldable pub has : List Tree → Tree → Bool
has [] t = false
has (s ∷ ss) t = cond (same_tree s t) true (has ss t)

-- A set with a function added at the end, unless it is there.
unfoldable pub add : List Tree → Tree → List Tree
add S t = cond (has S t) S (S ++ (t ∷ []))

-- A set with each of some functions added in turn.
unfoldable pub add_all : List Tree → List Tree → List Tree
add_all S [] = S
add_all S (t ∷ ts) = add_all (add S t) ts

-- Every function that step 3 names, with what its three lists name, in the order in which they become known.
module _ (m : ℕ) (list : Fn m → Fn m → List Cube) (names : Fn m → Fn m → List Tree) (L U : Fn (suc m)) where
  unfoldable pub named3 : List Tree
  named3 =
      nodes m (p0_of m list L U) ++
      nodes m (p1_of m list L U) ++
      names (p0_of m list L U) U.0 ++
      nodes m (g0_of m list L U) ++
      names (p1_of m list L U) U.1 ++
      nodes m (g1_of m list L U) ++
      nodes m (r0_of m list L U) ++
      nodes m (r1_of m list L U) ++
      nodes m (r0_or_r1 m list L U) ++
      nodes m (u0_and_u1 m list L U) ++
      names (r0_or_r1 m list L U) (u0_and_u1 m list L U) ++
      nodes m (g_star m list L U) ++
      nodes (suc m) (g_of m list L U)

-- The nodes that a generation names: those of every step 3 reached. Steps 1 and 2 name nothing.
unfoldable pub named : (m : ℕ) → Fn m → Fn m → List Tree
named zero L U = []
named (suc m) L U =
    steps (always false (suc m) L) (always true (suc m) U) [] (λ u. named3 m (list_of m) (named m) L U)

-- The node need of a generation: the records at entry, with all nodes that it names.
unfoldable pub need : List Tree → (m : ℕ) → Fn m → Fn m → ℕ
need S m L U = length (add_all S (named m L U))

-- The same where a column on which neither root depends is left out.
unfoldable pub leftmost_named : (m : ℕ) → Fn m → Fn m → List Tree
leftmost_named zero L U = []
leftmost_named (suc m) L U =
    steps (always false (suc m) L) (always true (suc m) U) []
    (λ u. leave_out (idle m L U) (λ v. leftmost_named m L.0 U.0) (λ v. named3 m (leftmost m) (leftmost_named m) L U))
