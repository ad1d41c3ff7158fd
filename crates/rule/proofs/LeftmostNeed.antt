-- The node need is the same whether every column is expanded or the leftmost on which a root depends, for a set that has the
-- nodes of the roots. Of a column on which neither depends step 3 names the nodes of the roots, which are there, what the half
-- names, and the nodes of its cover, which are among those.
use mathlib.Core.Path.{◌≡◌, refl, sym, ap, ap₂, ◌∙◌}
use mathlib.Core.Bool.{Bool, true, false}
use mathlib.Core.List.{List, []}
use mathlib.Core.Logic.{◌⊎◌, inl, inr}
use Prim.Native.Nat.{ℕ, zero, suc}
use lib.ListN.{length}
use Rattle.rule.specs.Func.{Fn, constant, always, within}
use Rattle.rule.specs.Cube.{Cube, covered}
use Rattle.rule.specs.Rule.{p0_of, p1_of, g0_of, g1_of, r0_of, r1_of, r0_or_r1, u0_and_u1, list_of, idle, leave_out, leftmost}
use Rattle.rule.specs.Nodes.{Tree, nodes, add_all, named3, named, need, leftmost_named}
use Rattle.rule.proofs.Bools.{which}
use Rattle.rule.proofs.Operations.{constant-always}
use Rattle.rule.proofs.Trees.{same_as_itself}
use Rattle.rule.proofs.Sets.{AllIn, all_in_through, add_all_append, all_present_add_nothing}
use Rattle.rule.proofs.Parts.{parts}
use Rattle.rule.proofs.Nodes.{constant_no_nodes, low-nodes, high-nodes, idle-adds_the_half's}
use Rattle.rule.proofs.Cover.{list-covers, within_a, within_b, within_c}
use Rattle.rule.proofs.Named.{named_step1, named_step2, named_step3, cover_added}
use Rattle.rule.proofs.Leftmost.{twin_always, idle-lower, idle-upper, first-within, same-steps, leftmost-list}
use Rattle.rule.proofs.Leftmost.{idle-p0_of, idle-p1_of, idle-g0_of, idle-g1_of, idle-r0_of, idle-r1_of, idle-r0_or_r1, idle-u0_and_u1, idle-g_star, idle-g_of}
use Rattle.rule.proofs.Leftmost.{same-p0_of, same-p1_of, same-g0_of, same-g1_of, same-r0_of, same-r1_of, same-r0_or_r1, same-u0_and_u1, same-g_star, same-g_of}

-- A column on which neither root depends.
module _ (m : ℕ) (l u : Fn m) (w : within m l u ≡ true) (S : List Tree) (has-l : AllIn S (nodes m l))
    (has-u : AllIn S (nodes m u)) where
  lower_present : add_all S (nodes m l) ≡ S
  lower_present = all_present_add_nothing S (nodes m l) has-l

  upper_present : add_all S (nodes m u) ≡ S
  upper_present = all_present_add_nothing S (nodes m u) has-u

  -- The nodes of the list's cover, as a function of the half's columns and of one more.
  cover : Fn m
  cover = covered m (list_of m l u)

  cover_present : add_all (add_all S (named m l u)) (nodes m cover) ≡ add_all S (named m l u)
  unfolding cover
  cover_present = all_present_add_nothing (add_all S (named m l u)) (nodes m cover) (cover_added S m l u)

  twin_cover_present : add_all (add_all S (named m l u)) (nodes (suc m) (cover, cover)) ≡ add_all S (named m l u)
  twin_cover_present =
      idle-adds_the_half's m (cover, cover) (same_as_itself m cover) (add_all S (named m l u)) ∙ cover_present

  none_named : named m (constant m false) u ≡ []
  none_named = named_step1 m (constant m false) u (constant-always false m)

  idle-named3 : add_all S (named3 m (list_of m) (named m) (l, l) (u, u)) ≡ add_all S (named m l u)
  unfolding named3 cover add_all
  idle-named3 =
      rw (
        idle-p0_of m l u w,
        idle-p1_of m l u w,
        idle-g0_of m l u w,
        idle-g1_of m l u w,
        idle-r0_of m l u w,
        idle-r1_of m l u w,
        idle-r0_or_r1 m l u w,
        idle-u0_and_u1 m l u w,
        idle-g_star m l u w,
        idle-g_of m l u w,
        constant_no_nodes m false,
        none_named,
      )
      (simp (add_all_append, lower_present, upper_present, cover_present, twin_cover_present))

  -- Expanding it adds what the half alone does.
  pub idle-need : add_all S (named (suc m) (l, l) (u, u)) ≡ add_all S (named m l u)
  idle-need = go (which (always false m l)) (which (always true m u))
    where
      go : (always false m l ≡ true) ⊎ (always false m l ≡ false) → (always true m u ≡ true) ⊎ (always true m u ≡ false) →
          add_all S (named (suc m) (l, l) (u, u)) ≡ add_all S (named m l u)
      go (inl e) x = rw (named_step1 (suc m) (l, l) (u, u) (twin_always false m l ∙ e), named_step1 m l u e)
      go (inr e) (inl e') =
          rw (
            named_step2 (suc m) (l, l) (u, u) (twin_always false m l ∙ e) (twin_always true m u ∙ e'),
            named_step2 m l u e e',
          )
      go (inr e) (inr e') =
          rw (named_step3 m (l, l) (u, u) (twin_always false m l ∙ e) (twin_always true m u ∙ e')) idle-named3

-- Any other column: lists that are the rule's where the lower root is within the upper name the same in step 3.
module _ (m : ℕ) (list : Fn m → Fn m → List Cube) (agree : (l u : Fn m) → within m l u ≡ true → list l u ≡ list_of m l u)
    (names : Fn m → Fn m → List Tree) (L U : Fn (suc m)) (w : within (suc m) L U ≡ true) where
  same-named3 : named3 m list names L U ≡ named3 m (list_of m) names L U
  unfolding named3
  same-named3 =
      rw (
        same-p0_of m list agree L U w,
        same-p1_of m list agree L U w,
        same-g0_of m list agree L U w,
        same-g1_of m list agree L U w,
        same-r0_of m list agree L U w,
        same-r1_of m list agree L U w,
        same-r0_or_r1 m list agree L U w,
        same-u0_and_u1 m list agree L U w,
        same-g_star m list agree L U w,
        same-g_of m list agree L U w,
      )

-- Step 3 adds the same by names that add the same to every set that has the nodes of their roots: when a list is asked for,
-- the nodes of its lower root were just added, and those of its upper root are U's, or were added too.
module _ (m : ℕ) (names names' : Fn m → Fn m → List Tree)
    (agree : (l u : Fn m) → within m l u ≡ true → (S : List Tree) → AllIn S (nodes m l) → AllIn S (nodes m u) →
    add_all S (names l u) ≡ add_all S (names' l u))
    (L U : Fn (suc m)) (w : within (suc m) L U ≡ true) (S : List Tree) (has-U : AllIn S (nodes (suc m) U)) where
  -- The sets before each of the three lists.
  abbrev before_a : List Tree
  before_a = add_all (add_all S (nodes m (p0_of m (list_of m) L U))) (nodes m (p1_of m (list_of m) L U))

  abbrev before_b : List Tree
  before_b = add_all (add_all before_a (names' (p0_of m (list_of m) L U) U.0)) (nodes m (g0_of m (list_of m) L U))

  abbrev after_b : List Tree
  after_b = add_all (add_all before_b (names' (p1_of m (list_of m) L U) U.1)) (nodes m (g1_of m (list_of m) L U))

  abbrev before_c : List Tree
  before_c =
      add_all (add_all (add_all (add_all after_b (nodes m (r0_of m (list_of m) L U))) (nodes m (r1_of m (list_of m) L U)))
      (nodes m (r0_or_r1 m (list_of m) L U))) (nodes m (u0_and_u1 m (list_of m) L U))

  -- To each of them both names add the same.
  same-names_a : add_all before_a (names (p0_of m (list_of m) L U) U.0) ≡ add_all before_a (names' (p0_of m (list_of m) L U) U.0)
  same-names_a =
      agree (p0_of m (list_of m) L U) U.0 (within_a m (list_of m) (list-covers m) L U w) before_a
      (search parts depth 40 fits 9000)
      (all_in_through (search parts depth 40 fits 9000) (all_in_through has-U (low-nodes m U)))

  same-names_b : add_all before_b (names (p1_of m (list_of m) L U) U.1) ≡ add_all before_b (names' (p1_of m (list_of m) L U) U.1)
  same-names_b =
      agree (p1_of m (list_of m) L U) U.1 (within_b m (list_of m) (list-covers m) L U w) before_b
      (search parts depth 40 fits 9000)
      (all_in_through (search parts depth 40 fits 9000) (all_in_through has-U (high-nodes m U)))

  same-names_c :
      add_all before_c (names (r0_or_r1 m (list_of m) L U) (u0_and_u1 m (list_of m) L U)) ≡
      add_all before_c (names' (r0_or_r1 m (list_of m) L U) (u0_and_u1 m (list_of m) L U))
  same-names_c =
      agree (r0_or_r1 m (list_of m) L U) (u0_and_u1 m (list_of m) L U) (within_c m (list_of m) (list-covers m) L U w) before_c
      (search parts depth 40 fits 9000)
      (search parts depth 40 fits 9000)

  same_added3 : add_all S (named3 m (list_of m) names L U) ≡ add_all S (named3 m (list_of m) names' L U)
  unfolding named3
  same_added3 = simp (add_all_append, same-names_a, same-names_b, same-names_c)

-- What document 01's words name adds the same as what the expansion of every column names.
pub leftmost-need :
    (m : ℕ) (L U : Fn m) → within m L U ≡ true → (S : List Tree) → AllIn S (nodes m L) → AllIn S (nodes m U) →
    add_all S (leftmost_named m L U) ≡ add_all S (named m L U)
unfolding leftmost_named named leave_out
leftmost-need zero L U w S has-L has-U = refl
leftmost-need (suc m) L U w S has-L has-U =
    same-steps (add_all S) (always false (suc m) L) (always true (suc m) U) _ _ _
    (λ e e'. go (idle m L U) refl (leftmost-need m))
  where
    low_l : AllIn S (nodes m L.0)
    low_l = all_in_through has-L (low-nodes m L)

    low_u : AllIn S (nodes m U.0)
    low_u = all_in_through has-U (low-nodes m U)

    go :
        (b : Bool) → idle m L U ≡ b →
        ((l u : Fn m) → within m l u ≡ true → (T : List Tree) → AllIn T (nodes m l) → AllIn T (nodes m u) →
        add_all T (leftmost_named m l u) ≡ add_all T (named m l u)) →
        add_all S
        (leave_out b (λ v. leftmost_named m L.0 U.0) (λ v. named3 m (leftmost m) (leftmost_named m) L U)) ≡
        add_all S (named3 m (list_of m) (named m) L U)
    go true i ih =
        ih L.0 U.0 (first-within m L U w) S low_l low_u ∙
        sym (idle-named3 m L.0 U.0 (first-within m L U w) S low_l low_u) ∙
        sym (ap₂ (λ l u. add_all S (named3 m (list_of m) (named m) l u)) (idle-lower m L U i) (idle-upper m L U i))
    go false i ih =
        ap (add_all S) (same-named3 m (leftmost m) (leftmost-list m) (leftmost_named m) L U w) ∙
        same_added3 m (leftmost_named m) (named m) ih L U w S has-U

-- So the node need is the same.
pub leftmost-same-need :
    (m : ℕ) (L U : Fn m) → within m L U ≡ true → (S : List Tree) → AllIn S (nodes m L) → AllIn S (nodes m U) →
    length (add_all S (leftmost_named m L U)) ≡ need S m L U
unfolding need
leftmost-same-need m L U w S has-L has-U = ap length (leftmost-need m L U w S has-L has-U)
