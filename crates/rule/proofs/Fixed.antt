-- The nodes of a function in document 01's words: the distinct non-constant functions got by fixing its first columns, in
-- all ways. A function got so is one of all the columns, that does not depend on those fixed; a node is such a function
-- from the first column on which it depends, and that tells it.
use mathlib.Core.Path.{◌≡◌, refl, sym, ap, ◌∙◌}
use mathlib.Core.Bool.{Bool, true, false, cond, true≢false, false≢true}
use mathlib.Core.List.{[], ◌∷◌}
use mathlib.Core.Logic.{◌↔◌}
use Prim.Native.Nat.{ℕ, zero, suc, ◌≤◌}
use native.Mathlib.Omega.{arith}
use Rattle.rule.specs.Func.{Fn, half, constant, same}
use Rattle.rule.specs.Point.{Pt}
use Rattle.rule.specs.Nodes.{Tree, leaf, fork, tree, same_tree, nodes, has}
use Rattle.rule.proofs.Bools.{clash}
use Rattle.rule.proofs.Trees.{same_equal, same_as_itself, same-tree-same, tree_values}
use Rattle.rule.proofs.Nodes.{low-nodes, half-nodes, itself_a_node, node_cases}

-- A function with its first columns fixed to some digits. Digits past the last column are not read.
unfoldable pub fixed : (m : ℕ) → Fn m → Pt → Fn m
fixed m f [] = f
fixed zero f (b ∷ p) = f
fixed (suc m) f (b ∷ p) = (fixed m (half b f) p, fixed m (half b f) p)

-- A function from the first column on which it depends; a leaf if it depends on none.
unfoldable pub reduced : Tree → Tree
reduced (leaf b) = leaf b
reduced (fork s t) = cond (same_tree s t) (reduced s) (fork s t)

-- A tree that stands for a non-constant function got by fixing first columns.
pub record FixedNode (m : ℕ) (f : Fn m) (t : Tree) : Type 0 where
  pub digits : Pt
  pub stands_for : reduced (tree m (fixed m f digits)) ≡ t
  pub not_constant : (b : Bool) → ¬ (fixed m f digits ≡ constant m b)

-- The first step of a reduction.
pub reduced_idle : (m : ℕ) (f : Fn (suc m)) → same m f.0 f.1 ≡ true → reduced (tree (suc m) f) ≡ reduced (tree m f.0)
unfolding reduced tree
reduced_idle m f e = rw (same-tree-same m f.0 f.1, e)

pub reduced_depends : (m : ℕ) (f : Fn (suc m)) → same m f.0 f.1 ≡ false → reduced (tree (suc m) f) ≡ tree (suc m) f
unfolding reduced tree
reduced_depends m f e = rw (same-tree-same m f.0 f.1, e)

reduced_twin : (m : ℕ) (g : Fn m) → reduced (tree (suc m) (g, g)) ≡ reduced (tree m g)
reduced_twin m g = reduced_idle m (g, g) (same_as_itself m g)

-- The columns that a tree has: a reduced one has no more.
columns : Tree → ℕ
columns (leaf b) = 0
columns (fork s t) = suc (columns s)

columns-tree : (m : ℕ) (f : Fn m) → columns (tree m f) ≡ m
unfolding columns tree
columns-tree zero f = refl
columns-tree (suc m) f = ap suc (columns-tree m f.0)

columns_reduced : (t : Tree) → columns (reduced t) ≤ columns t
unfolding columns reduced
columns_reduced (leaf b) = omega arith
columns_reduced (fork s t) = go (same_tree s t) (columns_reduced s)
  where
    go : (b : Bool) → columns (reduced s) ≤ columns s → columns (cond b (reduced s) (fork s t)) ≤ suc (columns s)
    go true h = omega arith
    go false h = omega arith

-- Distinct functions have distinct reduced trees.
pub reduced_tells : (m : ℕ) (f g : Fn m) → reduced (tree m f) ≡ reduced (tree m g) → f ≡ g
unfolding reduced tree
reduced_tells zero f g e = cc
reduced_tells (suc m) f g e =
    go (same m f.0 f.1) (same m g.0 g.1) refl refl (reduced_tells m f.0 g.0)
  where
    never : (h : Fn m) → (k : Fn (suc m)) → reduced (tree m h) ≡ tree (suc m) k → ⊥
    never h k q = omega (arith, columns_reduced (tree m h), columns-tree m h, columns-tree (suc m) k, ap columns q)

    go :
        (a b : Bool) → same m f.0 f.1 ≡ a → same m g.0 g.1 ≡ b →
        (reduced (tree m f.0) ≡ reduced (tree m g.0) → f.0 ≡ g.0) → f ≡ g
    go true true s t ih =
        let low : f.0 ≡ g.0 = ih (sym (reduced_idle m f s) ∙ e ∙ reduced_idle m g t) in
        let high : f.1 ≡ g.1 = sym (same_equal m f.0 f.1 s) ∙ low ∙ same_equal m g.0 g.1 t in
        λ i. (low i, high i)
    go true false s t ih = absurd (never f.0 g (sym (reduced_idle m f s) ∙ e ∙ reduced_depends m g t))
    go false true s t ih = absurd (never g.0 f (sym (reduced_idle m g t) ∙ sym e ∙ reduced_depends m f s))
    go false false s t ih = tree_values (suc m) f g (sym (reduced_depends m f s) ∙ e ∙ reduced_depends m g t)

-- The constant functions are those that reduce to a leaf.
pub constant_reduced : (m : ℕ) (b : Bool) → reduced (tree m (constant m b)) ≡ leaf b
unfolding constant reduced tree
constant_reduced zero b = refl
constant_reduced (suc m) b = reduced_twin m (constant m b) ∙ constant_reduced m b

pub leaf-is-constant : (m : ℕ) (f : Fn m) (b : Bool) → reduced (tree m f) ≡ leaf b → f ≡ constant m b
leaf-is-constant m f b e = reduced_tells m f (constant m b) (e ∙ sym (constant_reduced m b))

is_leaf : Tree → Bool
is_leaf (leaf b) = true
is_leaf (fork s t) = false

-- A function got by fixing is a node, unless it is constant.
reduced_a_node :
    (m : ℕ) (f : Fn m) → is_leaf (reduced (tree m f)) ≡ false → has (nodes m f) (reduced (tree m f)) ≡ true
unfolding reduced tree is_leaf
reduced_a_node zero f e = absurd (true≢false e)
reduced_a_node (suc m) f e = go (same m f.0 f.1) refl (reduced_a_node m f.0)
  where
    go :
        (b : Bool) → same m f.0 f.1 ≡ b →
        (is_leaf (reduced (tree m f.0)) ≡ false → has (nodes m f.0) (reduced (tree m f.0)) ≡ true) →
        has (nodes (suc m) f) (reduced (tree (suc m) f)) ≡ true
    go true s ih =
        rw (reduced_idle m f s)
        ((low-nodes m f).inside (reduced (tree m f.0)) (ih (ap is_leaf (sym (reduced_idle m f s)) ∙ e)))
    go false s ih = rw (reduced_depends m f s) (itself_a_node m f s)

fixed_a_node :
    (m : ℕ) (f : Fn m) (p : Pt) → is_leaf (reduced (tree m (fixed m f p))) ≡ false →
    has (nodes m f) (reduced (tree m (fixed m f p))) ≡ true
unfolding fixed reduced tree is_leaf
fixed_a_node m f [] e = reduced_a_node m f e
fixed_a_node zero f (b ∷ p) e = absurd (true≢false e)
fixed_a_node (suc m) f (b ∷ p) e = step (fixed m (half b f) p) e (fixed_a_node m (half b f) p)
  where
    step :
        (g : Fn m) → is_leaf (reduced (tree (suc m) (g, g))) ≡ false →
        (is_leaf (reduced (tree m g)) ≡ false → has (nodes m (half b f)) (reduced (tree m g)) ≡ true) →
        has (nodes (suc m) f) (reduced (tree (suc m) (g, g))) ≡ true
    step g h ih =
        rw (reduced_twin m g) ((half-nodes m f b).inside (reduced (tree m g)) (ih (ap is_leaf (sym (reduced_twin m g)) ∙ h)))

fixed_not_leaf : (m : ℕ) (f : Fn m) (t : Tree) → FixedNode m f t → is_leaf t ≡ false
unfolding is_leaf
fixed_not_leaf m f (leaf b) n = absurd (n.not_constant b (leaf-is-constant m (fixed m f n.digits) b n.stands_for))
fixed_not_leaf m f (fork s t) n = refl

-- A node is got by fixing the columns before it.
a_node_fixed : (m : ℕ) (f : Fn m) (t : Tree) → has (nodes m f) t ≡ true → FixedNode m f t
unfolding nodes has fixed half constant
a_node_fixed zero f t e = absurd (false≢true e)
a_node_fixed (suc m) f t e =
    node_cases m f t e (λ h. after false (a_node_fixed m f.0 t h)) (λ h. after true (a_node_fixed m f.1 t h))
    (λ s p. record { digits = []; stands_for = reduced_depends m f s ∙ sym p; not_constant = itself s })
  where
    itself : same m f.0 f.1 ≡ false → (b : Bool) → ¬ (f ≡ constant (suc m) b)
    itself s b q = clash (same_as_itself m (constant m b)) (sym (ap (λ (g : Fn (suc m)). same m g.0 g.1) q) ∙ s)

    after : (b : Bool) → FixedNode m (half b f) t → FixedNode (suc m) f t
    after b n = record {
      digits = b ∷ n.digits;
      stands_for = reduced_twin m (fixed m (half b f) n.digits) ∙ n.stands_for;
      not_constant = λ c q. n.not_constant c (ap (λ (g : Fn (suc m)). g.0) q);
    }

-- The nodes are the non-constant functions got by fixing first columns.
pub nodes_are_the_fixed : (m : ℕ) (f : Fn m) (t : Tree) → (has (nodes m f) t ≡ true) ↔ FixedNode m f t
nodes_are_the_fixed m f t = (
  a_node_fixed m f t,
  λ n. rw (← n.stands_for) (fixed_a_node m f n.digits (ap is_leaf n.stands_for ∙ fixed_not_leaf m f t n)),
)
