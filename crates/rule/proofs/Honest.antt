-- The rule's list keeps the four conditions: every on point covered, no off point, no row and no literal too many.
use mathlib.Core.Path.{◌≡◌, refl, ap, ◌∙◌, subst⁻¹}
use mathlib.Core.Bool.{true}
use mathlib.Core.List.{List, [], ◌∷◌, ◌++◌}
use Prim.Native.Nat.{ℕ, zero, suc, ◌<◌}
use lib.ListN.{length}
use Rattle.rule.specs.Func.{Fn, within}
use Rattle.rule.specs.Cube.{Sign, sign0, sign1, dash, Cube, covers, covers_any, dashes, cube_at, without}
use Rattle.rule.specs.Rule.{put, list_a, list_b, list_c, result, list_of}
use Rattle.rule.specs.Demand.{NoOff, Honest}
use Rattle.rule.proofs.Steps.{by_step, list_step3, list_end}
use Rattle.rule.proofs.Cover.{Covers, list-covers}
use Rattle.rule.proofs.Picks.{picks_at, picks_covers}
use Rattle.rule.proofs.Irredundant.{Irredundant, list_irredundant}
use Rattle.rule.proofs.Bools.{or_left, clash, must_be_false}

-- A list that covers and is irredundant keeps the four conditions, cube by position.
pub honest : (m : ℕ) (L : Fn m) (U : Fn m) (cs : List Cube) → Covers m L U cs → Irredundant m L U cs → Honest m L U cs
honest m L U cs c n =
    record {
      every_on = λ p o. c.on p o.lower;
      no_off = no_off;
      no_literal = λ i h k g e. let s = n.literal (cube_at cs i) (without cs i) (picks_at cs i h) k e in (s.point, record { whole = s.whole; upper = s.off }, s.hit);
      no_row = λ i h. let b = n.row (cube_at cs i) (without cs i) (picks_at cs i h) in (b.point, record { whole = b.whole; lower = b.on }, b.bare);
    }
  where
    no_off : (i : ℕ) → i < length cs → NoOff m L U cs i
    no_off i h p o =
        must_be_false (covers m (cube_at cs i) p)
        (λ t. clash (c.off p (picks_covers m p (picks_at cs i h) ∙ or_left (covers m (cube_at cs i) p) (covers_any m (without cs i) p) t)) o.upper)

-- The rule's list, for L within U.
pub list_honest : (m : ℕ) (L : Fn m) (U : Fn m) → within m L U ≡ true → Honest m L U (list_of m L U)
list_honest m L U w = honest m L U (list_of m L U) (list-covers m L U w) (list_irredundant m L U w)

-- Every cube of a list has m signs.
unfoldable pub Sized : ℕ → List Cube → Type 0
Sized m [] = Unit {0}
Sized m (c ∷ cs) = (length c ≡ m) × Sized m cs

sized_append : (m : ℕ) (xs : List Cube) (ys : List Cube) → Sized m xs → Sized m ys → Sized m (xs ++ ys)
unfolding Sized
sized_append m [] ys a b = b
sized_append m (x ∷ xs) ys a b = (a.0, sized_append m xs ys a.1 b)

sized-put : (m : ℕ) (s : Sign) (cs : List Cube) → Sized m cs → Sized (suc m) (put s cs)
unfolding Sized put
sized-put m s [] a = tt
sized-put m s (c ∷ cs) a = (ap suc a.0, sized-put m s cs a.1)

length-dashes : (m : ℕ) → length (dashes m) ≡ m
unfolding dashes
length-dashes zero = refl
length-dashes (suc m) = ap suc (length-dashes m)

sized-result : (m : ℕ) (list : Fn m → Fn m → List Cube) → ((L : Fn m) (U : Fn m) → Sized m (list L U)) → (L : Fn (suc m)) (U : Fn (suc m)) → Sized (suc m) (result m list L U)
unfolding result list_a list_b list_c
sized-result m list ih L U =
    sized_append (suc m) (put sign0 (list_a m list L U) ++ put sign1 (list_b m list L U)) (put dash (list_c m list L U))
    (sized_append (suc m) (put sign0 (list_a m list L U)) (put sign1 (list_b m list L U)) (sized-put m sign0 (list_a m list L U) (ih _ _)) (sized-put m sign1 (list_b m list L U) (ih _ _)))
    (sized-put m dash (list_c m list L U) (ih _ _))

-- Every cube of the rule's list has a sign for each column.
pub list-sized : (m : ℕ) (L : Fn m) (U : Fn m) → Sized m (list_of m L U)
unfolding Sized
list-sized zero L U =
    by_step (Sized zero) zero L U (λ e. tt) (λ e e'. (length-dashes zero, tt))
    (λ e e'. subst⁻¹ (Sized zero) (list_end L U e e') tt)
list-sized (suc m) L U =
    by_step (Sized (suc m)) (suc m) L U (λ e. tt) (λ e e'. (length-dashes (suc m), tt))
    (λ e e'. subst⁻¹ (Sized (suc m)) (list_step3 m L U e e') (sized-result m (list_of m) (list-sized m) L U))
