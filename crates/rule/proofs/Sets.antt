-- Sets of functions: what a set has after additions, lists all of whose functions are in a set, and additions that
-- change nothing, since a function that is present is not added again.
use mathlib.Core.Path.{◌≡◌, refl, sym, ap, subst, ◌∙◌}
use mathlib.Core.Bool.{Bool, true, false, cond, ◌||◌, false≢true}
use mathlib.Core.List.{List, [], ◌∷◌, ◌++◌}
use Rattle.rule.specs.Nodes.{Tree, same_tree, has, add, add_all}
use Rattle.rule.proofs.Bools.{or_left, or_right, or_assoc, or_none, or_false, must_be_false, clash}
use Rattle.rule.proofs.Trees.{same_trees_equal, tree-same_as_itself}

or_cases : {A : Type 0} (a b : Bool) → (a || b) ≡ true → (a ≡ true → A) → (b ≡ true → A) → A
or_cases true b e p q = p refl
or_cases false b e p q = q e

-- What a set has.
pub has-step : (s : Tree) (ss : List Tree) (t : Tree) → has (s ∷ ss) t ≡ (same_tree s t || has ss t)
unfolding has
has-step s ss t = go (same_tree s t)
  where
    go : (b : Bool) → cond b true (has ss t) ≡ (b || has ss t)
    go true = refl
    go false = refl

pub has_append : (xs ys : List Tree) (t : Tree) → has (xs ++ ys) t ≡ (has xs t || has ys t)
unfolding has
has_append [] ys t = refl
has_append (x ∷ xs) ys t =
    has-step x (xs ++ ys) t ∙ rw (has_append xs ys t, has-step x xs t) (or_assoc (same_tree x t) (has xs t) (has ys t))

pub has_first : (xs ys : List Tree) (t : Tree) → has xs t ≡ true → has (xs ++ ys) t ≡ true
has_first xs ys t e = has_append xs ys t ∙ or_left (has xs t) (has ys t) e

pub has-second : (xs ys : List Tree) (t : Tree) → has ys t ≡ true → has (xs ++ ys) t ≡ true
has-second xs ys t e = has_append xs ys t ∙ or_right (has xs t) (has ys t) e

pub has_append_cases :
    {A : Type 0} (xs ys : List Tree) (t : Tree) → has (xs ++ ys) t ≡ true → (has xs t ≡ true → A) → (has ys t ≡ true → A) → A
has_append_cases xs ys t e p q = or_cases (has xs t) (has ys t) (sym (has_append xs ys t) ∙ e) p q

pub has_one : (s t : Tree) → has (s ∷ []) t ≡ same_tree s t
unfolding has
has_one s t = has-step s [] t ∙ or_none (same_tree s t)

pub has_itself : (t : Tree) → has (t ∷ []) t ≡ true
has_itself t = has_one t t ∙ tree-same_as_itself t

pub has_last : (xs : List Tree) (s t : Tree) → has (xs ++ (s ∷ [])) t ≡ (has xs t || same_tree s t)
has_last xs s t = has_append xs (s ∷ []) t ∙ ap (λ b. has xs t || b) (has_one s t)

-- Of equal functions a set has both or neither.
pub has_same : {b : Bool} (S : List Tree) (s t : Tree) → has S s ≡ b → same_tree s t ≡ true → has S t ≡ b
has_same {b} S s t e q = subst (λ u. has S u ≡ b) (same_trees_equal s t q) e

-- One addition: a function that is present adds nothing, and one that is absent goes to the end.
pub present_adds_nothing : (S : List Tree) (t : Tree) → has S t ≡ true → add S t ≡ S
unfolding add
present_adds_nothing S t e = rw e

pub absent_goes_last : (S : List Tree) (t : Tree) → has S t ≡ false → add S t ≡ S ++ (t ∷ [])
unfolding add
absent_goes_last S t e = rw e

pub has-add : (S : List Tree) (s t : Tree) → has (add S s) t ≡ (has S t || same_tree s t)
has-add S s t = go (has S s) refl
  where
    known : (a b : Bool) → (b ≡ true → a ≡ true) → a ≡ (a || b)
    known true b h = refl
    known false true h = h refl
    known false false h = refl

    go : (b : Bool) → has S s ≡ b → has (add S s) t ≡ (has S t || same_tree s t)
    go true e = rw (present_adds_nothing S s e) (known (has S t) (same_tree s t) (has_same S s t e))
    go false e = rw (absent_goes_last S s e) (has_last S s t)

-- Additions in turn.
pub has-add_all : (S ts : List Tree) (t : Tree) → has (add_all S ts) t ≡ (has S t || has ts t)
unfolding add_all has
has-add_all S [] t = sym (or_none (has S t))
has-add_all S (s ∷ ts) t =
    has-add_all (add S s) ts t ∙ rw (has-add S s t, has-step s ts t) (sym (or_assoc (has S t) (same_tree s t) (has ts t)))

pub add_all_keeps : (S ts : List Tree) (t : Tree) → has S t ≡ true → has (add_all S ts) t ≡ true
add_all_keeps S ts t e = has-add_all S ts t ∙ or_left (has S t) (has ts t) e

pub add_all-adds : (S ts : List Tree) (t : Tree) → has ts t ≡ true → has (add_all S ts) t ≡ true
add_all-adds S ts t e = has-add_all S ts t ∙ or_right (has S t) (has ts t) e

pub add_all_cases :
    {A : Type 0} (S ts : List Tree) (t : Tree) → has (add_all S ts) t ≡ true → (has S t ≡ true → A) → (has ts t ≡ true → A) → A
add_all_cases S ts t e p q = or_cases (has S t) (has ts t) (sym (has-add_all S ts t) ∙ e) p q

pub add_all-adds_no_other : (S ts : List Tree) (t : Tree) → has S t ≡ false → has ts t ≡ false → has (add_all S ts) t ≡ false
add_all-adds_no_other S ts t e h = has-add_all S ts t ∙ or_false (has S t) (has ts t) e h

pub add_all_append : (S xs ys : List Tree) → add_all S (xs ++ ys) ≡ add_all (add_all S xs) ys
unfolding add_all
add_all_append S [] ys = refl
add_all_append S (x ∷ xs) ys = add_all_append (add S x) xs ys

-- Every function of a list is in a set.
pub record AllIn (S ts : List Tree) : Type 0 where
  pub inside : (t : Tree) → has ts t ≡ true → has S t ≡ true

pub all_in_itself : (S : List Tree) → AllIn S S
all_in_itself S = record { inside = λ t e. e }

pub all_in_through : {S T ts : List Tree} → AllIn S T → AllIn T ts → AllIn S ts
all_in_through p q = record { inside = λ t e. p.inside t (q.inside t e) }

-- By the list's parts.
pub all_in_none : (S : List Tree) → AllIn S []
unfolding has
all_in_none S = record { inside = λ t e. absurd (false≢true e) }

pub all_in_one : (S : List Tree) (t : Tree) → has S t ≡ true → AllIn S (t ∷ [])
all_in_one S t e = record { inside = λ u h. has_same S t u e (sym (has_one t u) ∙ h) }

pub all_in_append : {S : List Tree} (xs ys : List Tree) → AllIn S xs → AllIn S ys → AllIn S (xs ++ ys)
all_in_append xs ys p q = record { inside = λ t e. has_append_cases xs ys t e (p.inside t) (q.inside t) }

pub all_in_cons : (S : List Tree) (t : Tree) (ts : List Tree) → has S t ≡ true → AllIn S ts → AllIn S (t ∷ ts)
all_in_cons S t ts e p = all_in_append (t ∷ []) ts (all_in_one S t e) p

pub all_in_first : {S : List Tree} (xs ys : List Tree) → AllIn S (xs ++ ys) → AllIn S xs
all_in_first xs ys p = record { inside = λ t e. p.inside t (has_first xs ys t e) }

pub all_in_second : {S : List Tree} (xs ys : List Tree) → AllIn S (xs ++ ys) → AllIn S ys
all_in_second xs ys p = record { inside = λ t e. p.inside t (has-second xs ys t e) }

pub all_in_head : {S : List Tree} (t : Tree) (ts : List Tree) → AllIn S (t ∷ ts) → has S t ≡ true
all_in_head t ts p = p.inside t (has_first (t ∷ []) ts t (has_itself t))

pub all_in_tail : {S : List Tree} (t : Tree) (ts : List Tree) → AllIn S (t ∷ ts) → AllIn S ts
all_in_tail t ts p = all_in_second (t ∷ []) ts p

-- In a longer list, in a set that grew.
pub all_in_longer_first : {ts : List Tree} (xs ys : List Tree) → AllIn xs ts → AllIn (xs ++ ys) ts
all_in_longer_first xs ys p = record { inside = λ t e. has_first xs ys t (p.inside t e) }

pub all_in_longer_second : {ts : List Tree} (xs ys : List Tree) → AllIn ys ts → AllIn (xs ++ ys) ts
all_in_longer_second xs ys p = record { inside = λ t e. has-second xs ys t (p.inside t e) }

pub all_in_kept : {ts : List Tree} (S xs : List Tree) → AllIn S ts → AllIn (add_all S xs) ts
all_in_kept S xs p = record { inside = λ t e. add_all_keeps S xs t (p.inside t e) }

pub all_in_added : {ts : List Tree} (S xs : List Tree) → AllIn xs ts → AllIn (add_all S xs) ts
all_in_added S xs p = record { inside = λ t e. add_all-adds S xs t (p.inside t e) }

pub all_in_add_all : {T : List Tree} (S ts : List Tree) → AllIn T S → AllIn T ts → AllIn T (add_all S ts)
all_in_add_all S ts p q = record { inside = λ t e. add_all_cases S ts t e (p.inside t) (q.inside t) }

-- What a set has not, none of its lists has.
pub not_inside : {S ts : List Tree} → AllIn S ts → (t : Tree) → has S t ≡ false → has ts t ≡ false
not_inside {ts} p t e = must_be_false (has ts t) (λ h. clash (p.inside t h) e)

-- Lists have the same members if each is in the other.
pub same_members_inside : (xs ys : List Tree) → ((t : Tree) → has xs t ≡ has ys t) → AllIn ys xs
same_members_inside xs ys h = record { inside = λ t e. sym (h t) ∙ e }

pub same_members : {xs ys : List Tree} → AllIn xs ys → AllIn ys xs → (t : Tree) → has xs t ≡ has ys t
same_members {xs} {ys} p q t = go (has xs t) refl
  where
    go : (b : Bool) → has xs t ≡ b → b ≡ has ys t
    go true e = sym (q.inside t e)
    go false e = sym (not_inside p t e)

-- What is there already changes nothing.
pub all_present_add_nothing : (S ts : List Tree) → AllIn S ts → add_all S ts ≡ S
unfolding add_all
all_present_add_nothing S [] p = refl
all_present_add_nothing S (t ∷ ts) p =
    rw (present_adds_nothing S t (all_in_head t ts p)) (all_present_add_nothing S ts (all_in_tail t ts p))

pub all_added : (S ts : List Tree) → AllIn (add_all S ts) ts
all_added S ts = all_in_added S ts (all_in_itself ts)

pub all-kept : (S ts : List Tree) → AllIn (add_all S ts) S
all-kept S ts = all_in_kept S ts (all_in_itself S)

pub adding_again-adds_nothing : (S ts : List Tree) → add_all (add_all S ts) ts ≡ add_all S ts
adding_again-adds_nothing S ts = all_present_add_nothing (add_all S ts) ts (all_added S ts)

pub present_last_adds_nothing : (S xs ys : List Tree) → AllIn (add_all S xs) ys → add_all S (xs ++ ys) ≡ add_all S xs
present_last_adds_nothing S xs ys p = add_all_append S xs ys ∙ all_present_add_nothing (add_all S xs) ys p

pub present_between_adds_nothing :
    (S xs ys zs : List Tree) → AllIn (add_all S xs) ys → add_all S (xs ++ ys ++ zs) ≡ add_all S (xs ++ zs)
present_between_adds_nothing S xs ys zs p =
    add_all_append S (xs ++ ys) zs ∙ rw (present_last_adds_nothing S xs ys p) (sym (add_all_append S xs zs))
