-- How a set grows: at its end, by the functions that are new to it, which do not repeat. So how long it becomes depends
-- on the members added alone, by the pigeonhole, and not on their order.
use mathlib.Core.Path.{◌≡◌, refl, sym, ap, ◌∙◌}
use mathlib.Core.Bool.{Bool, true, false, cond, not, ◌&&◌, ◌||◌, false≢true}
use mathlib.Core.List.{List, [], ◌∷◌, ◌++◌, append_assoc, append-nil}
use Prim.Native.Nat.{suc, ◌+◌, ◌≤◌}
use native.Mathlib.Nat.{le_antisymm}
use native.Mathlib.Omega.{arith}
use lib.ListN.{length, length-append}
use Rattle.rule.specs.Nodes.{Tree, same_tree, has, add, add_all}
use Rattle.rule.proofs.Bools.{and_left, and_right, and_false_r, not_is_true, must_be_false, clash}
use Rattle.rule.proofs.Trees.{same_trees_equal}
use Rattle.rule.proofs.Sets.{has-step, has_append, has_first, has-second, has_itself, has_last, has_same, has-add_all}
use Rattle.rule.proofs.Sets.{present_adds_nothing, absent_goes_last, add_all_append}
use Rattle.rule.proofs.Sets.{AllIn, all_in_itself, all_in_head, all_in_tail, all_in_added, not_inside, same_members_inside}

-- The functions of a list that are new to a set, each where it first stands.
unfoldable pub fresh : List Tree → List Tree → List Tree
fresh S [] = []
fresh S (t ∷ ts) = cond (has S t) (fresh S ts) (t ∷ fresh (S ++ (t ∷ [])) ts)

fresh_present : (S : List Tree) (t : Tree) (ts : List Tree) → has S t ≡ true → fresh S (t ∷ ts) ≡ fresh S ts
unfolding fresh
fresh_present S t ts e = rw e

fresh_absent : (S : List Tree) (t : Tree) (ts : List Tree) → has S t ≡ false → fresh S (t ∷ ts) ≡ t ∷ fresh (S ++ (t ∷ [])) ts
unfolding fresh
fresh_absent S t ts e = rw e

-- A set grows at its end, by what is new to it.
pub add_all_fresh : (S ts : List Tree) → add_all S ts ≡ S ++ fresh S ts
unfolding add_all fresh
add_all_fresh S [] = sym (append-nil S)
add_all_fresh S (t ∷ ts) = go (has S t) refl (add_all_fresh S ts) (add_all_fresh (S ++ (t ∷ [])) ts)
  where
    go :
        (b : Bool) → has S t ≡ b → add_all S ts ≡ S ++ fresh S ts →
        add_all (S ++ (t ∷ [])) ts ≡ (S ++ (t ∷ [])) ++ fresh (S ++ (t ∷ [])) ts → add_all (add S t) ts ≡ S ++ fresh S (t ∷ ts)
    go true e p q = rw (present_adds_nothing S t e, fresh_present S t ts e) p
    go false e p q =
        rw (absent_goes_last S t e, fresh_absent S t ts e) (q ∙ append_assoc S (t ∷ []) (fresh (S ++ (t ∷ [])) ts))

pub add_all-length : (S ts : List Tree) → length (add_all S ts) ≡ length S + length (fresh S ts)
add_all-length S ts = ap length (add_all_fresh S ts) ∙ length-append S (fresh S ts)

pub add_all_no_shorter : (S ts : List Tree) → length S ≤ length (add_all S ts)
add_all_no_shorter S ts = omega (arith, add_all-length S ts)

pub more_no_shorter : (S xs ys : List Tree) → length (add_all S xs) ≤ length (add_all S (xs ++ ys))
more_no_shorter S xs ys = rw (add_all_append S xs ys) (add_all_no_shorter (add_all S xs) ys)

-- What is new to a set: what is in the list and not in the set.
pub has_fresh : (S ts : List Tree) (t : Tree) → has (fresh S ts) t ≡ (has ts t && not (has S t))
unfolding fresh has
has_fresh S [] t = refl
has_fresh S (s ∷ ts) t = go (has S s) refl (has_fresh S ts t) (has_fresh (S ++ (s ∷ [])) ts t)
  where
    old : (a b c : Bool) → (a ≡ true → c ≡ true) → (b && not c) ≡ ((a || b) && not c)
    old true true true h = refl
    old true false true h = refl
    old true b false h = clash (h refl) refl
    old false b c h = refl

    new : (a b c : Bool) → (a ≡ true → c ≡ false) → (a || (b && not (c || a))) ≡ ((a || b) && not c)
    new true b true h = clash refl (h refl)
    new true b false h = refl
    new false b true h = refl
    new false b false h = refl

    go :
        (b : Bool) → has S s ≡ b → has (fresh S ts) t ≡ (has ts t && not (has S t)) →
        has (fresh (S ++ (s ∷ [])) ts) t ≡ (has ts t && not (has (S ++ (s ∷ [])) t)) →
        has (fresh S (s ∷ ts)) t ≡ (has (s ∷ ts) t && not (has S t))
    go true e p q =
        ap (λ l. has l t) (fresh_present S s ts e) ∙ p ∙
        old (same_tree s t) (has ts t) (has S t) (has_same S s t e) ∙ ap (λ b. b && not (has S t)) (sym (has-step s ts t))
    go false e p q =
        ap (λ l. has l t) (fresh_absent S s ts e) ∙ has-step s (fresh (S ++ (s ∷ [])) ts) t ∙
        ap (λ b. same_tree s t || b) (q ∙ ap (λ b. has ts t && not b) (has_last S s t)) ∙
        new (same_tree s t) (has ts t) (has S t) (has_same S s t e) ∙ ap (λ b. b && not (has S t)) (sym (has-step s ts t))

-- No function of a list equals a later one.
unfoldable pub no_repeats : List Tree → Bool
no_repeats [] = true
no_repeats (t ∷ ts) = not (has ts t) && no_repeats ts

pub no_repeats_cons : (t : Tree) (ts : List Tree) → has ts t ≡ false → no_repeats ts ≡ true → no_repeats (t ∷ ts) ≡ true
unfolding no_repeats
no_repeats_cons t ts e p = rw e p

pub no_repeats_head : (t : Tree) (ts : List Tree) → no_repeats (t ∷ ts) ≡ true → has ts t ≡ false
unfolding no_repeats
no_repeats_head t ts p = not_is_true (has ts t) (and_left (not (has ts t)) (no_repeats ts) p)

pub no_repeats_tail : (t : Tree) (ts : List Tree) → no_repeats (t ∷ ts) ≡ true → no_repeats ts ≡ true
unfolding no_repeats
no_repeats_tail t ts p = and_right (not (has ts t)) (no_repeats ts) p

pub fresh_no_repeats : (S ts : List Tree) → no_repeats (fresh S ts) ≡ true
unfolding fresh no_repeats
fresh_no_repeats S [] = refl
fresh_no_repeats S (t ∷ ts) = go (has S t) refl (fresh_no_repeats S ts) (fresh_no_repeats (S ++ (t ∷ [])) ts)
  where
    none : (a b : Bool) → b ≡ true → (a && not b) ≡ false
    none a b e = rw e (and_false_r a)

    go :
        (b : Bool) → has S t ≡ b → no_repeats (fresh S ts) ≡ true → no_repeats (fresh (S ++ (t ∷ [])) ts) ≡ true →
        no_repeats (fresh S (t ∷ ts)) ≡ true
    go true e p q = rw (fresh_present S t ts e) p
    go false e p q =
        rw (fresh_absent S t ts e)
        (no_repeats_cons t (fresh (S ++ (t ∷ [])) ts)
        (has_fresh (S ++ (t ∷ [])) ts t ∙ none (has ts t) (has (S ++ (t ∷ [])) t) (has-second S (t ∷ []) t (has_itself t))) q)

-- Lists without repeats that share nothing have none together.
no_repeats_append :
    (xs ys : List Tree) → no_repeats xs ≡ true → no_repeats ys ≡ true →
    ((t : Tree) → has ys t ≡ true → has xs t ≡ false) → no_repeats (xs ++ ys) ≡ true
no_repeats_append [] ys p q apart = q
no_repeats_append (x ∷ xs) ys p q apart =
    no_repeats_cons x (xs ++ ys) (has_append xs ys x ∙ rw (no_repeats_head x xs p) other)
    (no_repeats_append xs ys (no_repeats_tail x xs p) q (λ t e. later t (apart t e)))
  where
    later : (t : Tree) → has (x ∷ xs) t ≡ false → has xs t ≡ false
    later t e = not_inside (all_in_tail x xs (all_in_itself (x ∷ xs))) t e

    other : has ys x ≡ false
    other = must_be_false (has ys x) (λ e. clash (has_first (x ∷ []) xs x (has_itself x)) (apart x e))

pub add_all_no_repeats : (S ts : List Tree) → no_repeats S ≡ true → no_repeats (add_all S ts) ≡ true
add_all_no_repeats S ts p =
    rw (add_all_fresh S ts)
    (no_repeats_append S (fresh S ts) p (fresh_no_repeats S ts) apart)
  where
    apart : (t : Tree) → has (fresh S ts) t ≡ true → has S t ≡ false
    apart t e = not_is_true (has S t) (and_right (has ts t) (not (has S t)) (sym (has_fresh S ts t) ∙ e))

-- The pigeonhole: a list without repeats whose functions are all in another is no longer than that one.
take_out : List Tree → Tree → List Tree
take_out [] t = []
take_out (s ∷ ss) t = cond (same_tree s t) ss (s ∷ take_out ss t)

take_out_shorter : (S : List Tree) (t : Tree) → has S t ≡ true → length S ≡ suc (length (take_out S t))
unfolding take_out has
take_out_shorter [] t e = absurd (false≢true e)
take_out_shorter (s ∷ ss) t e = go (same_tree s t) e (take_out_shorter ss t)
  where
    go :
        (b : Bool) → cond b true (has ss t) ≡ true → (has ss t ≡ true → length ss ≡ suc (length (take_out ss t))) →
        suc (length ss) ≡ suc (length (cond b ss (s ∷ take_out ss t)))
    go true h ih = refl
    go false h ih = ap suc (ih h)

take_out_leaves : (S : List Tree) (t u : Tree) → same_tree t u ≡ false → has (take_out S t) u ≡ has S u
unfolding take_out
take_out_leaves [] t u e = refl
take_out_leaves (s ∷ ss) t u e = go (same_tree s t) refl (take_out_leaves ss t u e)
  where
    go :
        (b : Bool) → same_tree s t ≡ b → has (take_out ss t) u ≡ has ss u →
        has (cond b ss (s ∷ take_out ss t)) u ≡ has (s ∷ ss) u
    go true h ih = sym (has-step s ss u ∙ rw (same_trees_equal s t h, e))
    go false h ih = has-step s (take_out ss t) u ∙ rw ih (sym (has-step s ss u))

pub no_repeats_no_longer : (xs ys : List Tree) → no_repeats xs ≡ true → AllIn ys xs → length xs ≤ length ys
no_repeats_no_longer [] ys p q = omega arith
no_repeats_no_longer (x ∷ xs) ys p q =
    let shorter : length ys ≡ suc (length (take_out ys x)) = take_out_shorter ys x (all_in_head x xs q) in
    let rest : length xs ≤ length (take_out ys x) = no_repeats_no_longer xs (take_out ys x) (no_repeats_tail x xs p) left in
    omega arith
  where
    other : (t : Tree) → has xs t ≡ true → same_tree x t ≡ false
    other t e = must_be_false (same_tree x t) (λ h. clash e (has_same xs x t (no_repeats_head x xs p) h))

    left : AllIn (take_out ys x) xs
    left = record { inside = λ t e. take_out_leaves ys x t (other t e) ∙ (all_in_tail x xs q).inside t e }

pub same_members_same-length :
    (xs ys : List Tree) → no_repeats xs ≡ true → no_repeats ys ≡ true → AllIn xs ys → AllIn ys xs → length xs ≡ length ys
same_members_same-length xs ys p q in-xs in_ys =
    le_antisymm (no_repeats_no_longer xs ys p in_ys) (no_repeats_no_longer ys xs q in-xs)

-- The need does not depend on the order: it grows with the members named, and equal members need the same.
pub fewer_need_no_more : (S xs ys : List Tree) → AllIn (add_all S ys) xs → length (add_all S xs) ≤ length (add_all S ys)
fewer_need_no_more S xs ys p =
    let fewer : length (fresh S xs) ≤ length (fresh S ys) = no_repeats_no_longer (fresh S xs) (fresh S ys) (fresh_no_repeats S xs) new in
    omega (arith, add_all-length S xs, add_all-length S ys)
  where
    keep : (a b c : Bool) → (a && not b) ≡ true → (a ≡ true → (b || c) ≡ true) → (c && not b) ≡ true
    keep true true c e h = and_false_r c ∙ e
    keep true false true e h = refl
    keep true false false e h = h refl
    keep false b c e h = cc

    new : AllIn (fresh S ys) (fresh S xs)
    new = record {
      inside = λ t e.
          has_fresh S ys t ∙
          keep (has xs t) (has S t) (has ys t) (sym (has_fresh S xs t) ∙ e) (λ h. sym (has-add_all S ys t) ∙ p.inside t h);
    }

pub fewer_members_need_no_more : (S xs ys : List Tree) → AllIn ys xs → length (add_all S xs) ≤ length (add_all S ys)
fewer_members_need_no_more S xs ys p = fewer_need_no_more S xs ys (all_in_added S ys p)

pub same-need :
    (S xs ys : List Tree) → AllIn (add_all S xs) ys → AllIn (add_all S ys) xs → length (add_all S xs) ≡ length (add_all S ys)
same-need S xs ys p q = le_antisymm (fewer_need_no_more S xs ys q) (fewer_need_no_more S ys xs p)

pub same_members_same-need :
    (S xs ys : List Tree) → ((t : Tree) → has xs t ≡ has ys t) → length (add_all S xs) ≡ length (add_all S ys)
same_members_same-need S xs ys h =
    same-need S xs ys (all_in_added S xs (same_members_inside ys xs (λ t. sym (h t))))
    (all_in_added S ys (same_members_inside xs ys h))
