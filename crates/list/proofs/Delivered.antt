-- What the generator delivers: the verdict on it is accept; and any two answers that its contract allows are equal.
use mathlib.Core.Path.{◌≡◌, refl, sym, ap, ◌∙◌}
use mathlib.Core.List.{List}
use Prim.Native.Nat.{ℕ, zero, suc, ◌≤◌}
use native.Mathlib.Omega.{arith}
use lib.ListN.{length, take}
use lib.Seq.{take-append_seam}
use borrow.Author.Tests.{leb-true}
use Rattle.std.specs.Prelude.{Result, Ok}
use Rattle.rule.specs.Refusal.{first_broken}
use Rattle.rule.specs.declared.refusal.Refused.{Refused}
use Rattle.rule.specs.Verdict.{accept, verdict_numbers}
use Rattle.rule.specs.Nodes.{add_all, need, leftmost_named}
use Rattle.rule.specs.Rule.{leftmost, list_of}
use Rattle.rule.proofs.Delivered.{accepts_numbers}
use Rattle.rule.proofs.Leftmost.{leftmost-list}
use Rattle.rule.proofs.LeftmostNeed.{leftmost-same-need}
use Rattle.graph.specs.Table.{table_of, functions}
use Rattle.graph.specs.Entry.{input_conditions}
use Rattle.graph.proofs.Records.{nodes_in_use}
use Rattle.graph.proofs.Refusals.{first-kept, others_kept, before-kept}
use Rattle.graph.proofs.Roots.{past_input}
use Rattle.list.specs.Entry.{lower, upper, the_list, room_conditions, refusal, answer_for, changes_nothing, room_left, Generates}
use Rattle.list.proofs.Entering.{table-good, inside-kept, roots}

module _ (n : ℕ) (c : ℕ) (v : List ℕ) (l : List ℕ) (h : List ℕ) (a : ℕ) (b : ℕ) (room : List ℕ) where
  -- Done means that nothing was refused, and gives the list's length.
  pub done_refuses_none : (q : ℕ) (size : ℕ) → Ok size ≡ answer_for n c v l h a b room q → q ≡ 0
  unfolding answer_for
  done_refuses_none zero size e = refl
  done_refuses_none (suc q) size e = let z : ◌≡◌ {A = ℕ} 0 1 = cc in let f : ⊥ = omega arith in absurd f

  done-length : (q : ℕ) (size : ℕ) → q ≡ 0 → Ok size ≡ answer_for n c v l h a b room q → size ≡ length (the_list n c v l h a b room)
  unfolding answer_for
  done-length zero size z e = cc
  done-length (suc q) size z e = let f : ⊥ = omega arith in absurd f

  -- At done the input is good, the room starts with the list, and the list fits.
  module _ (c' : ℕ) (v' : List ℕ) (l' : List ℕ) (h' : List ℕ) (room' : List ℕ) (r : Result ℕ Refused) (size : ℕ) (g : Generates n c v l h a b room c' v' l' h' room' r) (e : r ≡ Ok size) where
    none : refusal n c v l h a b room ≡ 0
    none = done_refuses_none (refusal n c v l h a b room) size (sym e ∙ g.answer)

    pub done-good : first_broken (input_conditions n c v l h a b (length room)) ≡ 0
    unfolding refusal
    done-good = before-kept (input_conditions n c v l h a b (length room)) (room_conditions n c v l h a b room) none

    pub done_stands : take size room' ≡ the_list n c v l h a b room
    unfolding room_left changes_nothing
    done_stands =
        ap (λ j. take j room') (done-length (refusal n c v l h a b room) size none (sym e ∙ g.answer)) ∙
        ap (take (length (the_list n c v l h a b room))) (g.list ∙ ap (room_left n c v l h a b room) none) ∙
        take-append_seam (the_list n c v l h a b room) _

    pub done-fits : length (the_list n c v l h a b room) ≤ length room
    unfolding refusal room_conditions
    done-fits =
        let rooms = sym (past_input n c v l h a b (length room) (room_conditions n c v l h a b room) done-good) ∙ none in
        leb-true (length (the_list n c v l h a b room)) (length room) (first-kept _ _ (λ q. omega arith) (others_kept _ _ (λ q. omega arith) rooms))

    -- The verdict on a delivered list is accept.
    pub delivered_accepted : verdict_numbers n (lower n c v l h a b room) (upper n c v l h a b room) (take size room') ≡ accept
    unfolding the_list
    delivered_accepted =
        ap (verdict_numbers n (lower n c v l h a b room) (upper n c v l h a b room)) done_stands ∙
        accepts_numbers n (lower n c v l h a b room) (upper n c v l h a b room) (table-good n c v l h a b room done-good).columns (inside-kept n c v l h a b room done-good)

  -- The list and the need are those of document 01's words, by which step 3 takes the leftmost column on which a root
  -- depends: what the generator adds for the other columns is there already.
  module _ (good : first_broken (input_conditions n c v l h a b (length room)) ≡ 0) where
    pub list_by_leftmost : leftmost n (lower n c v l h a b room) (upper n c v l h a b room) ≡ list_of n (lower n c v l h a b room) (upper n c v l h a b room)
    list_by_leftmost =
        leftmost-list n (lower n c v l h a b room) (upper n c v l h a b room) (inside-kept n c v l h a b room good)

    pub need_by_leftmost : length (add_all (functions n (table_of v l h) c) (leftmost_named n (lower n c v l h a b room) (upper n c v l h a b room))) ≡
        need (functions n (table_of v l h) c) n (lower n c v l h a b room) (upper n c v l h a b room)
    unfolding lower upper
    need_by_leftmost =
        leftmost-same-need n (lower n c v l h a b room) (upper n c v l h a b room) (inside-kept n c v l h a b room good) (functions n (table_of v l h) c)
        (nodes_in_use n (table_of v l h) c (table-good n c v l h a b room good).good n 0 a (omega arith) (roots n c v l h a b room good).first)
        (nodes_in_use n (table_of v l h) c (table-good n c v l h a b room good).good n 0 b (omega arith) (roots n c v l h a b room good).second)

  -- The contract decides the answer and every lent number.
  pub generates_unique : {c₁ : ℕ} {v₁ : List ℕ} {l₁ : List ℕ} {h₁ : List ℕ} {room₁ : List ℕ} {r₁ : Result ℕ Refused} {c₂ : ℕ} {v₂ : List ℕ} {l₂ : List ℕ} {h₂ : List ℕ} {room₂ : List ℕ} {r₂ : Result ℕ Refused} →
      Generates n c v l h a b room c₁ v₁ l₁ h₁ room₁ r₁ → Generates n c v l h a b room c₂ v₂ l₂ h₂ room₂ r₂ → (r₁ ≡ r₂) × (c₁ ≡ c₂) × (v₁ ≡ v₂) × (l₁ ≡ l₂) × (h₁ ≡ h₂) × (room₁ ≡ room₂)
  generates_unique p q = (
    p.answer ∙ sym q.answer,
    p.count ∙ sym q.count,
    p.level ∙ sym q.level,
    p.low ∙ sym q.low,
    p.high ∙ sym q.high,
    p.list ∙ sym q.list,
  )
