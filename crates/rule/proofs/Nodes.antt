-- The nodes of a function: its halves', and itself where its halves differ. So they are closed: with a node they hold
-- all nodes of that node, since a tree tells its function.
use mathlib.Core.Path.{◌≡◌, refl, sym, ap, subst, ◌∙◌}
use mathlib.Core.Bool.{Bool, true, false, false≢true, or_self}
use mathlib.Core.List.{List, [], ◌++◌, append-nil}
use Prim.Native.Nat.{ℕ, zero, suc, ◌≤◌}
use native.Mathlib.Omega.{arith}
use Rattle.rule.specs.Func.{Fn, half, constant, same}
use Rattle.rule.specs.Nodes.{Tree, tree, own, nodes, has, add, add_all}
use Rattle.rule.proofs.Trees.{same_trees_equal, same-tree-same, same_equal, same_as_itself}
use Rattle.rule.proofs.Sets.{has_append, has_append_cases, has_one, has_itself, has-second, add_all_append, add_all_cases}
use Rattle.rule.proofs.Sets.{AllIn, all_in_itself, all_in_through, all_in_append, all_in_longer_first, all_in_longer_second}
use Rattle.rule.proofs.Sets.{all_in_kept, all_in_added, adding_again-adds_nothing, all_present_add_nothing}

-- A constant function has no nodes.
pub constant_no_nodes : (m : ℕ) (b : Bool) → nodes m (constant m b) ≡ []
unfolding nodes constant own
constant_no_nodes zero b = refl
constant_no_nodes (suc m) b = rw (constant_no_nodes m b, same_as_itself m (constant m b))

module _ (m : ℕ) (f : Fn (suc m)) where
  -- The nodes of the halves are nodes of the function,
  pub low-nodes : AllIn (nodes (suc m) f) (nodes m f.0)
  unfolding nodes
  low-nodes =
      all_in_longer_first (nodes m f.0 ++ nodes m f.1) (own (same m f.0 f.1) (tree (suc m) f))
      (all_in_longer_first (nodes m f.0) (nodes m f.1) (all_in_itself (nodes m f.0)))

  pub high-nodes : AllIn (nodes (suc m) f) (nodes m f.1)
  unfolding nodes
  high-nodes =
      all_in_longer_first (nodes m f.0 ++ nodes m f.1) (own (same m f.0 f.1) (tree (suc m) f))
      (all_in_longer_second (nodes m f.0) (nodes m f.1) (all_in_itself (nodes m f.1)))

  pub half-nodes : (b : Bool) → AllIn (nodes (suc m) f) (nodes m (half b f))
  unfolding half
  half-nodes false = low-nodes
  half-nodes true = high-nodes

  -- and so is the function, if its halves differ.
  pub itself_a_node : same m f.0 f.1 ≡ false → has (nodes (suc m) f) (tree (suc m) f) ≡ true
  unfolding nodes own
  itself_a_node e =
      has-second (nodes m f.0 ++ nodes m f.1) (own (same m f.0 f.1) (tree (suc m) f)) (tree (suc m) f)
      (rw e (has_itself (tree (suc m) f)))

  -- It has no others.
  pub node_cases :
      {A : Type 0} (t : Tree) → has (nodes (suc m) f) t ≡ true →
      (has (nodes m f.0) t ≡ true → A) → (has (nodes m f.1) t ≡ true → A) →
      (same m f.0 f.1 ≡ false → t ≡ tree (suc m) f → A) → A
  unfolding nodes has own
  node_cases {A} t e low high itself =
      has_append_cases (nodes m f.0 ++ nodes m f.1) (own (same m f.0 f.1) (tree (suc m) f)) t e
      (λ h. has_append_cases (nodes m f.0) (nodes m f.1) t h low high)
      (λ h. go (same m f.0 f.1) refl h)
    where
      go : (b : Bool) → same m f.0 f.1 ≡ b → has (own b (tree (suc m) f)) t ≡ true → A
      go true s h = absurd (false≢true h)
      go false s h = itself s (sym (same_trees_equal (tree (suc m) f) t (sym (has_one (tree (suc m) f) t) ∙ h)))

  -- A function that does not depend on its first column has the nodes of its half.
  pub idle-nodes : same m f.0 f.1 ≡ true → nodes (suc m) f ≡ nodes m f.0 ++ nodes m f.0
  unfolding nodes own
  idle-nodes e =
      rw e
      (append-nil (nodes m f.0 ++ nodes m f.1) ∙
      ap (λ g. nodes m f.0 ++ nodes m g) (sym (same_equal m f.0 f.1 e)))

  pub idle-has_the_half's : same m f.0 f.1 ≡ true → (t : Tree) → has (nodes (suc m) f) t ≡ has (nodes m f.0) t
  idle-has_the_half's e t =
      ap (λ l. has l t) (idle-nodes e) ∙ has_append (nodes m f.0) (nodes m f.0) t ∙ or_self (has (nodes m f.0) t)

  pub idle-adds_the_half's :
      same m f.0 f.1 ≡ true → (S : List Tree) → add_all S (nodes (suc m) f) ≡ add_all S (nodes m f.0)
  idle-adds_the_half's e S =
      ap (add_all S) (idle-nodes e) ∙
      add_all_append S (nodes m f.0) (nodes m f.0) ∙ adding_again-adds_nothing S (nodes m f.0)

  -- To a set that has the nodes of the halves, a function adds itself at most.
  module _ (S : List Tree) (low : AllIn S (nodes m f.0)) (high : AllIn S (nodes m f.1)) where
    halves_present : add_all S (nodes (suc m) f) ≡ add_all S (own (same m f.0 f.1) (tree (suc m) f))
    unfolding nodes
    halves_present =
        add_all_append S (nodes m f.0 ++ nodes m f.1) (own (same m f.0 f.1) (tree (suc m) f)) ∙
        ap (λ l. add_all l (own (same m f.0 f.1) (tree (suc m) f)))
        (all_present_add_nothing S (nodes m f.0 ++ nodes m f.1) (all_in_append (nodes m f.0) (nodes m f.1) low high))

    pub halves_present_idle-adds_nothing : same m f.0 f.1 ≡ true → add_all S (nodes (suc m) f) ≡ S
    unfolding own add_all
    halves_present_idle-adds_nothing e = halves_present ∙ ap (λ b. add_all S (own b (tree (suc m) f))) e

    pub halves_present_adds_itself : same m f.0 f.1 ≡ false → add_all S (nodes (suc m) f) ≡ add S (tree (suc m) f)
    unfolding own add_all
    halves_present_adds_itself e = halves_present ∙ ap (λ b. add_all S (own b (tree (suc m) f))) e

-- A node is a function of some columns, no more than there are, that depends on the first of them.
pub record IsNode (m : ℕ) (t : Tree) : Type 0 where
  pub later : ℕ
  pub function : Fn (suc later)
  pub is : t ≡ tree (suc later) function
  pub depends : same later function.0 function.1 ≡ false
  pub fits : suc later ≤ m

-- With a column more it is one still.
wider : {m : ℕ} {t : Tree} → IsNode m t → IsNode (suc m) t
wider n =
    record { later = n.later; function = n.function; is = n.is; depends = n.depends; fits = omega (arith, n.fits) }

pub node_shape : (m : ℕ) (f : Fn m) (t : Tree) → has (nodes m f) t ≡ true → IsNode m t
unfolding nodes has
node_shape zero f t e = absurd (false≢true e)
node_shape (suc m) f t e =
    node_cases m f t e (λ h. wider (node_shape m f.0 t h)) (λ h. wider (node_shape m f.1 t h))
    (λ s p. record { later = m; function = f; is = p; depends = s; fits = omega arith })

-- Equal trees have the same nodes.
pub tree-nodes : (m n : ℕ) (f : Fn m) (g : Fn n) → tree m f ≡ tree n g → nodes m f ≡ nodes n g
unfolding tree nodes
tree-nodes zero zero f g e = refl
tree-nodes zero (suc n) f g e = cc
tree-nodes (suc m) zero f g e = cc
tree-nodes (suc m) (suc n) f g e =
    let low : tree m f.0 ≡ tree n g.0 = cc in
    let high : tree m f.1 ≡ tree n g.1 = cc in
    cc (
      tree-nodes m n f.0 g.0 low,
      tree-nodes m n f.1 g.1 high,
      same-tree-same m f.0 f.1,
      same-tree-same n g.0 g.1,
    )

-- The nodes of a node are nodes.
pub nodes-closed : (m k : ℕ) (f : Fn m) (g : Fn k) → has (nodes m f) (tree k g) ≡ true → AllIn (nodes m f) (nodes k g)
unfolding nodes has
nodes-closed zero k f g e = absurd (false≢true e)
nodes-closed (suc m) k f g e =
    node_cases m f (tree k g) e
    (λ h. all_in_through (low-nodes m f) (nodes-closed m k f.0 g h))
    (λ h. all_in_through (high-nodes m f) (nodes-closed m k f.1 g h))
    (λ s p. subst (AllIn (nodes (suc m) f)) (sym (tree-nodes k (suc m) g f p)) (all_in_itself (nodes (suc m) f)))

-- A set is closed if with a function it has all its nodes; sets made of nodes are.
pub record Closed (S : List Tree) : Type 0 where
  pub closed : (k : ℕ) (g : Fn k) → has S (tree k g) ≡ true → AllIn S (nodes k g)

pub closed_none : Closed []
unfolding has
closed_none = record { closed = λ k g e. absurd (false≢true e) }

pub closed-nodes : (m : ℕ) (f : Fn m) → Closed (nodes m f)
closed-nodes m f = record { closed = λ k g e. nodes-closed m k f g e }

pub closed_append : (xs ys : List Tree) → Closed xs → Closed ys → Closed (xs ++ ys)
closed_append xs ys p q = record {
  closed = λ k g e.
      has_append_cases xs ys (tree k g) e (λ h. all_in_longer_first xs ys (p.closed k g h))
      (λ h. all_in_longer_second xs ys (q.closed k g h));
}

pub closed-add_all : (S ts : List Tree) → Closed S → Closed ts → Closed (add_all S ts)
closed-add_all S ts p q = record {
  closed = λ k g e.
      add_all_cases S ts (tree k g) e (λ h. all_in_kept S ts (p.closed k g h)) (λ h. all_in_added S ts (q.closed k g h));
}
