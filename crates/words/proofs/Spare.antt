-- Which cube can go: one is spare exactly if it alone covers no on point, that is, if nothing of it is found among the on
-- points that are not covered twice.
use mathlib.Core.Path.{◌≡◌, refl, sym, ap, ap₂, ◌∙◌}
use mathlib.Core.Bool.{Bool, true, false, ◌&&◌, ◌||◌}
use mathlib.Core.List.{List, [], ◌∷◌}
use mathlib.Core.Logic.{◌⊎◌, inl, inr}
use Prim.Native.Nat.{ℕ, ◌<◌}
use lib.Dec.{eqb}
use lib.ListN.{length}
use Rattle.rule.specs.Func.{Fn, both, less, always, within}
use Rattle.rule.specs.Point.{Pt, at, smallest}
use Rattle.rule.specs.Cube.{Cube, covers, covers_any, cube_fn, covered, cube_at, without}
use Rattle.rule.proofs.Bools.{clash, and_left, and_right, and_intro, or_true, or_left, or_right, must_be_false}
use Rattle.rule.proofs.Func.{at_constant, at_both, at-either, in_less, less_in, less-out, within-at, at-within, always-at, at-always}
use Rattle.rule.proofs.Cubes.{at-cube_fn, at-covered}
use Rattle.rule.proofs.Picks.{Picks, here, there, picks_at, picks_covers}
use Rattle.words.specs.Word.{found_number}
use Rattle.words.specs.Faults.{covered_twice}
use Rattle.words.proofs.Answers.{same_truth, always-answer}

-- What a list covers twice, at a point.
at-twice : (m : ℕ) (c : Cube) (cs : List Cube) (p : Pt)
    → at m (covered_twice m (c ∷ cs)) p ≡ (at m (covered_twice m cs) p || (covers m c p && covers_any m cs p))
unfolding covered_twice
at-twice m c cs p =
    at-either m (covered_twice m cs) (both m (cube_fn m c) (covered m cs)) p ∙
    ap (λ b. at m (covered_twice m cs) p || b)
    (at_both m (cube_fn m c) (covered m cs) p ∙ ap₂ ◌&&◌ (at-cube_fn m c p) (at-covered m cs p))

-- The truth tables of the two steps below.
within_or : (t a b : Bool) → (t ≡ true → b ≡ true) → (t || (a && b)) ≡ true → b ≡ true
within_or true a b h e = h refl
within_or false a b h e = and_right a b e

take_here : (t b : Bool) → (t ≡ true → b ≡ true) → (t || (true && b)) ≡ b
take_here true b h = sym (h refl)
take_here false b h = refl

take_there : (l a : Bool) → (l || (a && true)) ≡ (a || l)
take_there true true = refl
take_there true false = refl
take_there false true = refl
take_there false false = refl

-- What is covered twice is covered.
twice_any : (m : ℕ) (p : Pt) (cs : List Cube) → at m (covered_twice m cs) p ≡ true → covers_any m cs p ≡ true
unfolding covered_twice covers_any
twice_any m p [] e = clash e (at_constant m false p)
twice_any m p (c ∷ cs) e =
    or_right (covers m c p) (covers_any m cs p)
    (within_or (at m (covered_twice m cs) p) (covers m c p) (covers_any m cs p) (twice_any m p cs) (sym (at-twice m c cs p) ∙ e))

-- A point that a cube covers is covered twice exactly if the others cover it.
twice_others : (m : ℕ) (p : Pt) {cs : List Cube} {c : Cube} {left : List Cube} → Picks cs c left → covers m c p ≡ true
    → at m (covered_twice m cs) p ≡ covers_any m left p
unfolding covers_any
twice_others m p (here {c = c} {cs = cs}) e =
    at-twice m c cs p ∙
    ap (λ b. at m (covered_twice m cs) p || (b && covers_any m cs p)) e ∙
    take_here (at m (covered_twice m cs) p) (covers_any m cs p) (twice_any m p cs)
twice_others m p (there {d = d} {cs = cs} {c = c} {left = left} k) e =
    let some-covers : covers_any m cs p ≡ true = picks_covers m p k ∙ or_left (covers m c p) (covers_any m left p) e in
    at-twice m d cs p ∙
    ap₂ (λ t b. t || (covers m d p && b)) (twice_others m p k e) some-covers ∙
    take_there (covers_any m left p) (covers m d p)

-- The on points that a cube covers and that are not covered twice.
module _ (m : ℕ) (L : Fn m) {cs : List Cube} {c : Cube} {left : List Cube} (k : Picks cs c left) (whole : within m L (covered m cs) ≡ true) where
  abbrev alone : Fn m
  alone = both m (cube_fn m c) (less m L (covered_twice m cs))

  at_alone : (p : Pt) → at m alone p ≡ true → (covers m c p ≡ true) × (at m (less m L (covered_twice m cs)) p ≡ true)
  at_alone p e =
      let b : (at m (cube_fn m c) p && at m (less m L (covered_twice m cs)) p) ≡ true =
      sym (at_both m (cube_fn m c) (less m L (covered_twice m cs)) p) ∙ e in (
        sym (at-cube_fn m c p) ∙ and_left (at m (cube_fn m c) p) (at m (less m L (covered_twice m cs)) p) b,
        and_right (at m (cube_fn m c) p) (at m (less m L (covered_twice m cs)) p) b,
      )

  none_alone : within m L (covered m left) ≡ true → always false m alone ≡ true
  none_alone w =
      at-always false m alone
      (λ p l.
      must_be_false (at m alone p)
      (λ e.
      let b = at_alone p e in
      let on : at m L p ≡ true = less_in m L (covered_twice m cs) p b.1 in
      let others : covers_any m left p ≡ true = sym (at-covered m left p) ∙ within-at m L (covered m left) p w on in
      clash (twice_others m p k b.0 ∙ others) (less-out m L (covered_twice m cs) p b.1)))

  all-covered : always false m alone ≡ true → within m L (covered m left) ≡ true
  all-covered a = at-within m L (covered m left) (λ p l on. go p on (or_true (covers m c p) (covers_any m left p) (hit p on)))
    where
      hit : (p : Pt) → at m L p ≡ true → (covers m c p || covers_any m left p) ≡ true
      hit p on = sym (picks_covers m p k) ∙ sym (at-covered m cs p) ∙ within-at m L (covered m cs) p whole on

      not_bare : (p : Pt) → at m L p ≡ true → covers m c p ≡ true → (b : Bool) → at m (covered_twice m cs) p ≡ b → b ≡ true
      not_bare p on e true t = refl
      not_bare p on e false t =
          clash
          (at_both m (cube_fn m c) (less m L (covered_twice m cs)) p ∙
          and_intro (at m (cube_fn m c) p) (at m (less m L (covered_twice m cs)) p) (at-cube_fn m c p ∙ e)
          (in_less m L (covered_twice m cs) p on t))
          (always-at false m alone p a)

      go : (p : Pt) → at m L p ≡ true → (covers m c p ≡ true) ⊎ (covers_any m left p ≡ true) → at m (covered m left) p ≡ true
      go p on (inr o) = at-covered m left p ∙ o
      go p on (inl e) =
          at-covered m left p ∙ sym (twice_others m p k e) ∙ not_bare p on e (at m (covered_twice m cs) p) refl

  spare_pick : within m L (covered m left) ≡ eqb (found_number (smallest m alone)) 0
  spare_pick = same_truth (within m L (covered m left)) (always false m alone) none_alone all-covered ∙ always-answer m alone

-- A cube of a list whose on points are all covered can go exactly if the search for it finds nothing.
pub spare-answer : (m : ℕ) (L : Fn m) (cs : List Cube) (i : ℕ) → i < length cs → within m L (covered m cs) ≡ true
    → within m L (covered m (without cs i)) ≡
    eqb (found_number (smallest m (both m (cube_fn m (cube_at cs i)) (less m L (covered_twice m cs))))) 0
spare-answer m L cs i h w = spare_pick m L (picks_at cs i h) w
