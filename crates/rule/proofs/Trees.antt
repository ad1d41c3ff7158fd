-- The tests of functions and of trees tell whether they are equal, and a tree tells its function: its columns and its values.
use mathlib.Core.Path.{◌≡◌, refl, sym, ap, ◌∙◌}
use mathlib.Core.Bool.{Bool, true, false, beq}
use Prim.Native.Nat.{ℕ, zero, suc}
use Rattle.rule.specs.Func.{Fn, same}
use Rattle.rule.specs.Nodes.{Tree, leaf, fork, tree, same_tree}
use Rattle.rule.proofs.Bools.{beq_true, beq_refl, and_left, and_right, clash}

beq_order : (a b : Bool) → beq a b ≡ beq b a
beq_order true true = refl
beq_order true false = refl
beq_order false true = refl
beq_order false false = refl

-- Equal trees, and the test for them.
pub same_trees_equal : (s t : Tree) → same_tree s t ≡ true → s ≡ t
unfolding same_tree
same_trees_equal (leaf a) (leaf b) e = ap leaf (beq_true a b e)
same_trees_equal (leaf a) (fork s t) e = cc
same_trees_equal (fork q r) (leaf b) e = cc
same_trees_equal (fork q r) (fork s t) e =
    cc (
      same_trees_equal q s (and_left (same_tree q s) (same_tree r t) e),
      same_trees_equal r t (and_right (same_tree q s) (same_tree r t) e),
    )

pub tree-same_as_itself : (t : Tree) → same_tree t t ≡ true
unfolding same_tree
tree-same_as_itself (leaf a) = beq_refl a
tree-same_as_itself (fork s t) = rw (tree-same_as_itself s) (tree-same_as_itself t)

pub trees_not_same_differ : (s t : Tree) → same_tree s t ≡ false → ¬ (s ≡ t)
trees_not_same_differ s t e p = clash (tree-same_as_itself s) (ap (same_tree s) p ∙ e)

pub same-tree_order : (s t : Tree) → same_tree s t ≡ same_tree t s
unfolding same_tree
same-tree_order (leaf a) (leaf b) = beq_order a b
same-tree_order (leaf a) (fork s t) = refl
same-tree_order (fork q r) (leaf b) = refl
same-tree_order (fork q r) (fork s t) = cc (same-tree_order q s, same-tree_order r t)

-- Equal functions, and the test for them.
pub same_equal : (m : ℕ) (f g : Fn m) → same m f g ≡ true → f ≡ g
unfolding same
same_equal zero f g e = beq_true f g e
same_equal (suc m) f g e =
    λ i. (
      same_equal m f.0 g.0 (and_left (same m f.0 g.0) (same m f.1 g.1) e) i,
      same_equal m f.1 g.1 (and_right (same m f.0 g.0) (same m f.1 g.1) e) i,
    )

pub same_as_itself : (m : ℕ) (f : Fn m) → same m f f ≡ true
unfolding same
same_as_itself zero f = beq_refl f
same_as_itself (suc m) f = rw (same_as_itself m f.0) (same_as_itself m f.1)

pub not_same_differ : (m : ℕ) (f g : Fn m) → same m f g ≡ false → ¬ (f ≡ g)
not_same_differ m f g e p = clash (same_as_itself m f) (ap (same m f) p ∙ e)

-- A function is told by its tree: its values,
pub same-tree-same : (m : ℕ) (f g : Fn m) → same_tree (tree m f) (tree m g) ≡ same m f g
unfolding same_tree tree same
same-tree-same zero f g = refl
same-tree-same (suc m) f g = cc (same-tree-same m f.0 g.0, same-tree-same m f.1 g.1)

pub tree_values : (m : ℕ) (f g : Fn m) → tree m f ≡ tree m g → f ≡ g
tree_values m f g e =
    same_equal m f g (sym (same-tree-same m f g) ∙ sym (ap (same_tree (tree m f)) e) ∙ tree-same_as_itself (tree m f))

-- and the number of its columns.
pub tree-columns : (m n : ℕ) (f : Fn m) (g : Fn n) → tree m f ≡ tree n g → m ≡ n
unfolding tree
tree-columns zero zero f g e = refl
tree-columns zero (suc n) f g e = cc
tree-columns (suc m) zero f g e = cc
tree-columns (suc m) (suc n) f g e = ap suc (tree-columns m n f.0 g.0 (cc))
