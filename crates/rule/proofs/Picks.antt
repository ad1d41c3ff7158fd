-- One cube of a list and the cubes that are left without it, by position: how a pick goes through lists one after the
-- other and under a sign, and what a list covers by a pick.
use mathlib.Core.Path.{◌≡◌, refl, sym, ap, ◌∙◌}
use mathlib.Core.Bool.{true, false, ◌||◌}
use mathlib.Core.List.{List, [], ◌∷◌, ◌++◌}
use mathlib.Core.Logic.{◌⊎◌, inl, inr}
use Prim.Native.Nat.{ℕ, zero, suc, ◌<◌}
use native.Mathlib.Nat.{le_of_suc-le-suc, not-suc-le-zero}
use lib.ListN.{length}
use Rattle.rule.specs.Point.{Pt}
use Rattle.rule.specs.Cube.{Sign, Cube, covers, covers_any, cube_at, without}
use Rattle.rule.specs.Rule.{put}
use Rattle.rule.proofs.Bools.{or_swap, or_none}

-- A cube of a list, and the list without it.
pub data Picks : List Cube → Cube → List Cube → Type 0 where
  here : {c : Cube} {cs : List Cube} → Picks (c ∷ cs) c cs
  there : {d : Cube} {cs : List Cube} {c : Cube} {left : List Cube} → Picks cs c left → Picks (d ∷ cs) c (d ∷ left)

-- The pick at a position.
pub picks_at : (cs : List Cube) (i : ℕ) → i < length cs → Picks cs (cube_at cs i) (without cs i)
unfolding cube_at without
picks_at [] i h = absurd (not-suc-le-zero h)
picks_at (c ∷ cs) zero h = here
picks_at (c ∷ cs) (suc i) h = there (picks_at cs i (le_of_suc-le-suc h))

-- A list covers what the picked cube covers, and what the others do.
pub picks_covers : (m : ℕ) (p : Pt) {cs : List Cube} {c : Cube} {left : List Cube} → Picks cs c left → covers_any m cs p ≡ (covers m c p || covers_any m left p)
unfolding covers_any
picks_covers m p here = refl
picks_covers m p (there {d = d} {c = c} {left = left} k) = ap (λ b. covers m d p || b) (picks_covers m p k) ∙ or_swap (covers m d p) (covers m c p) (covers_any m left p)

-- A pick from two lists is one from the first or one from the second.
pub record FirstPick (xs : List Cube) (ys : List Cube) (c : Cube) (left : List Cube) : Type 0 where
  pub others : List Cube
  pub pick : Picks xs c others
  pub is : left ≡ others ++ ys

pub record SecondPick (xs : List Cube) (ys : List Cube) (c : Cube) (left : List Cube) : Type 0 where
  pub others : List Cube
  pub pick : Picks ys c others
  pub is : left ≡ xs ++ others

pub picks_append : (xs : List Cube) (ys : List Cube) (c : Cube) (left : List Cube) → Picks (xs ++ ys) c left → FirstPick xs ys c left ⊎ SecondPick xs ys c left
picks_append [] ys c left k = inr (record { others = left; pick = k; is = refl })
picks_append (x ∷ xs) ys c left here = inl (record { others = xs; pick = here; is = refl })
picks_append (x ∷ xs) ys c left (there {left = l} k) = later (picks_append xs ys c l k)
  where
    later : FirstPick xs ys c l ⊎ SecondPick xs ys c l → FirstPick (x ∷ xs) ys c (x ∷ l) ⊎ SecondPick (x ∷ xs) ys c (x ∷ l)
    later (inl f) = inl (record { others = x ∷ f.others; pick = there f.pick; is = ap (λ r. x ∷ r) f.is })
    later (inr s) = inr (record { others = s.others; pick = s.pick; is = ap (λ r. x ∷ r) s.is })

-- A pick from a list under a sign is a pick from the list.
pub record PutPick (s : Sign) (cs : List Cube) (c : Cube) (left : List Cube) : Type 0 where
  pub cube : Cube
  pub others : List Cube
  pub pick : Picks cs cube others
  pub is : c ≡ s ∷ cube
  pub rest-is : left ≡ put s others

pub picks_put : (s : Sign) (cs : List Cube) (c : Cube) (left : List Cube) → Picks (put s cs) c left → PutPick s cs c left
unfolding put
picks_put s [] c left k = elim k [ ]
picks_put s (d ∷ cs) c left here = record { cube = d; others = cs; pick = here; is = refl; rest-is = refl }
picks_put s (d ∷ cs) c left (there {left = l} k) = later (picks_put s cs c l k)
  where
    later : PutPick s cs c l → PutPick s (d ∷ cs) c ((s ∷ d) ∷ l)
    later q = record { cube = q.cube; others = d ∷ q.others; pick = there q.pick; is = q.is; rest-is = ap (λ r. (s ∷ d) ∷ r) q.rest-is }

-- A point that the others do not cover, but the list does, the picked cube covers.
pub pick_hits : (m : ℕ) (p : Pt) {cs : List Cube} {c : Cube} {left : List Cube} → Picks cs c left → covers_any m cs p ≡ true → covers_any m left p ≡ false → covers m c p ≡ true
pick_hits m p {c = c} {left = left} k t n =
    sym (or_none (covers m c p)) ∙ ap (λ b. covers m c p || b) (sym n) ∙ sym (picks_covers m p k) ∙ t

-- There is no pick from an empty list, and one from a list of one.
pub no_pick : {c : Cube} {left : List Cube} → Picks [] c left → ⊥
no_pick = elim [ ]

pub only_pick : {d : Cube} {c : Cube} {left : List Cube} → Picks (d ∷ []) c left → c ≡ d
only_pick here = refl
only_pick {d = d} {c = c} (there {left = left} k) = elim k [ ]

pub only_left : {d : Cube} {c : Cube} {left : List Cube} → Picks (d ∷ []) c left → left ≡ []
only_left here = refl
only_left {d = d} {c = c} (there {left = left} k) = elim k [ ]
