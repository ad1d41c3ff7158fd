-- Generator and checker by their contracts alone: where the generator's contract allows a length, the checker's contract allows
-- nothing but accept for the cubes delivered, on the table that was lent and on the table that is left.
use mathlib.Core.Path.{◌≡◌, sym, ap, ap₂, ◌∙◌, subst⁻¹}
use mathlib.Core.List.{List}
use Prim.Native.Nat.{ℕ, ◌≤◌}
use native.Mathlib.Omega.{arith}
use lib.ListN.{length, take}
use Rattle.std.specs.Prelude.{Result, Ok}
use Rattle.rule.specs.Refusal.{first_broken}
use Rattle.rule.specs.declared.refusal.Refused.{Refused}
use Rattle.rule.specs.Verdict.{accept, verdict_numbers}
use Rattle.rule.proofs.Delivered.{list-formed}
use Rattle.rule.proofs.Malformed.{formed-at}
use Rattle.graph.specs.Table.{table_of, fn_of}
use Rattle.graph.specs.Entry.{input_conditions, cleared}
use Rattle.graph.proofs.Roots.{input_sound, shorter_good, cleared-good, lower-cleared, upper-cleared}
use Rattle.checker.specs.Judging.{Judged, judged_as}
use Rattle.checker.specs.Contract.{Formed}
use Rattle.checker.specs.Entry as check
use Rattle.checker.proofs.Entering.{good-judged}
use Rattle.list.specs.Entry.{lower, upper, the_list, refusal, changes_nothing, table_left, Generates}
use Rattle.list.proofs.Delivered.{done_refuses_none, done-good, done_stands, done-fits, delivered_accepted}

module _ (n : ℕ) (c : ℕ) (v : List ℕ) (l : List ℕ) (h : List ℕ) (a : ℕ) (b : ℕ) (room : List ℕ) (c' : ℕ) (v' : List ℕ) (l' : List ℕ) (h' : List ℕ) (room' : List ℕ) (r : Result ℕ Refused) (size : ℕ)
    (g : Generates n c v l h a b room c' v' l' h' room' r) (e : r ≡ Ok size) where
  good : first_broken (input_conditions n c v l h a b (length room)) ≡ 0
  good = done-good n c v l h a b room c' v' l' h' room' r size g e

  -- The cubes delivered are as many as the list room holds at most, and well formed.
  stands : take size room' ≡ the_list n c v l h a b room
  stands = done_stands n c v l h a b room c' v' l' h' room' r size g e

  fits : length (take size room') ≤ length room
  fits = omega (arith, ap length stands, done-fits n c v l h a b room c' v' l' h' room' r size g e)

  formed : Formed n (take size room')
  unfolding the_list
  formed =
      subst⁻¹ (Formed n) stands
      (record {
        formed = formed-at n (the_list n c v l h a b room)
            (list-formed n (lower n c v l h a b room) (upper n c v l h a b room) (input_sound n c v l h a b (length room) good).columns);
      })

  accepts : verdict_numbers n (fn_of (table_of v l h) 0 n a) (fn_of (table_of v l h) 0 n b) (take size room') ≡ accept
  unfolding lower upper
  accepts = delivered_accepted n c v l h a b room c' v' l' h' room' r size g e

  -- On the table that was lent.
  pub delivered_checked : (j : Result Judged Refused) → j ≡ check.answer_for n c v l h a b (take size room') (check.refusal n c v l h a b (take size room')) → j ≡ Ok (Ok tt)
  unfolding judged_as
  delivered_checked j q =
      q ∙
      good-judged n c v l h a b (take size room') (shorter_good n c v l h a b (length room) good (length (take size room')) fits) formed ∙
      ap (λ y. Ok (judged_as y)) accepts

  -- The table that is left has the same records in use, and zeros past them.
  left : (s : List ℕ) → table_left n c v l h a b room (refusal n c v l h a b room) s ≡ cleared c s
  unfolding table_left changes_nothing
  left s = ap (λ q. table_left n c v l h a b room q s) (done_refuses_none n c v l h a b room (refusal n c v l h a b room) size (sym e ∙ g.answer))

  -- On the table that is left.
  on-cleared : check.answer_for n c (cleared c v) (cleared c l) (cleared c h) a b (take size room') (check.refusal n c (cleared c v) (cleared c l) (cleared c h) a b (take size room')) ≡ Ok (Ok tt)
  unfolding judged_as
  on-cleared =
      good-judged n c (cleared c v) (cleared c l) (cleared c h) a b (take size room')
      (shorter_good n c (cleared c v) (cleared c l) (cleared c h) a b (length room) (cleared-good n c v l h a b (length room) good) (length (take size room')) fits) formed ∙
      ap₂ (λ f u. Ok (judged_as (verdict_numbers n f u (take size room')))) (lower-cleared n c v l h a b (length room) good) (upper-cleared n c v l h a b (length room) good) ∙
      ap (λ y. Ok (judged_as y)) accepts

  pub left_checked : (j : Result Judged Refused) → j ≡ check.answer_for n c' v' l' h' a b (take size room') (check.refusal n c' v' l' h' a b (take size room')) → j ≡ Ok (Ok tt)
  left_checked j q =
      q ∙
      (λ i.
      let d = g.count i in
      let s = (g.level ∙ left v) i in
      let t = (g.low ∙ left l) i in
      let u = (g.high ∙ left h) i in
      check.answer_for n d s t u a b (take size room') (check.refusal n d s t u a b (take size room'))) ∙
      on-cleared
