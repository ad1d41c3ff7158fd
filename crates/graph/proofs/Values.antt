-- The value of a root at a point: one law for each way out of its entry.
use mathlib.Core.Path.{◌≡◌, refl, sym, ap, ◌∙◌}
use mathlib.Core.Bool.{Bool, true, false, ◌&&◌}
use mathlib.Core.List.{List, [], ◌∷◌}
use Prim.Native.Nat.{ℕ, zero, suc, ◌+◌, ◌*◌, ◌^◌, ◌%◌, ◌<◌, ◌≤◌}
use native.Mathlib.Omega.{arith}
use lib.Dec.{ltb}
use borrow.Author.Tests.{ltb-true, lt-ltb}
use Rattle.rule.specs.Point.{at, digits}
use Rattle.rule.specs.Refusal.{Condition, first_broken, out_of_range, number_of, refusal_of, passed}
use Rattle.rule.proofs.Bools.{and_left, and_right, and_intro, clash, must_be_false}
use Rattle.rule.proofs.Masks.{shifted_one}
use Rattle.graph.specs.Table.{table_of, fn_of}
use Rattle.graph.specs.Entry.{table_conditions, in_range, value_conditions, value_answer}
use Rattle.std.specs.Prelude.{Result, Ok, Err}
use Rattle.rule.specs.declared.refusal.Refusal.{Refusal}
use Rattle.rule.proofs.Refusals.{passed_err, first_named}
use Rattle.graph.proofs.Refusals.{broken-here, kept_next, none-broken, broken-before, kept-before, passed_none, passed_sound}

module _ (n : ℕ) (c : ℕ) (v : List ℕ) (l : List ℕ) (h : List ℕ) (x : ℕ) (p : ℕ) where
  -- What the entry has to answer.
  abbrev pub Answers : Result Bool Refusal → Type 0
  Answers r = r ≡ value_answer (first_broken (value_conditions n c v l h x p)) n v l h x p

  abbrev point_kept : Condition
  point_kept = record { number = out_of_range; kept = in_range c x && ltb p (2 ^ n) }

  denied : (r : ℕ) → (r ≡ 0 → ⊥) → first_broken (value_conditions n c v l h x p) ≡ r → Answers (Err (refusal_of r))
  unfolding value_answer
  denied r z e = go r z ∙ ap (λ q. value_answer q n v l h x p) (sym e)
    where
      go : (q : ℕ) → (q ≡ 0 → ⊥) → Err (refusal_of q) ≡ value_answer q n v l h x p
      go zero y = absurd (y refl)
      go (suc q) y = refl

  pub value_bad_table : (e : Refusal) → Err e ≡ passed (first_broken (table_conditions n c v l h)) → Answers (Err e)
  unfolding value_conditions
  value_bad_table e q =
      let r = first_broken (table_conditions n c v l h) in
      let o = passed_err r e (sym q) in
      let z : r ≡ 0 → ⊥ = λ i. omega (arith, o.1) in
      ap Err o.2 ∙ denied r z (broken-before (table_conditions n c v l h) (point_kept ∷ []) r z refl)

  module _ (u : Unit) (q : Ok u ≡ passed (first_broken (table_conditions n c v l h))) where
    past_table_to_point : first_broken (value_conditions n c v l h x p) ≡ first_broken (point_kept ∷ [])
    unfolding value_conditions table_conditions
    past_table_to_point = kept-before (table_conditions n c v l h) (point_kept ∷ []) refl (passed_none n c v l h u q)

    answers-out_of_range : ((in_range c x ≡ true) × (p < 2 ^ n) → ⊥) → Answers (Err (refusal_of out_of_range))
    answers-out_of_range o =
        denied out_of_range (λ q. omega arith)
        (past_table_to_point ∙
        broken-here point_kept []
        (must_be_false (in_range c x && ltb p (2 ^ n))
        (λ t. o (and_left (in_range c x) (ltb p (2 ^ n)) t, ltb-true p (2 ^ n) (and_right (in_range c x) (ltb p (2 ^ n)) t)))))

    pub value_root-out : in_range c x ≡ false → Answers (Err (refusal_of out_of_range))
    value_root-out f = answers-out_of_range (λ q. clash q.0 f)

    -- The first number of no point, as the code shifts it.
    first-beyond : 1 * 2 ^ n % 4294967296 ≡ 2 ^ n
    first-beyond = shifted_one n (passed_sound n c v l h u q).columns

    pub value_point_out : 1 * 2 ^ n % 4294967296 ≤ p → Answers (Err (refusal_of out_of_range))
    value_point_out u = answers-out_of_range (λ q. omega (arith, q.1, first-beyond))

    pub value_found : in_range c x ≡ true → p < 1 * 2 ^ n % 4294967296 → (b : Bool) →
        ((m : ℕ) → 0 + m ≡ n → b ≡ at m (fn_of (table_of v l h) 0 m x) (digits m p)) → Answers (Ok b)
    unfolding value_answer
    value_found t u b q =
        ap Ok (q n (omega arith)) ∙
        ap (λ i. value_answer i n v l h x p)
        (sym
        (past_table_to_point ∙
        kept_next point_kept [] (and_intro (in_range c x) (ltb p (2 ^ n)) t (lt-ltb p (2 ^ n) (omega (arith, first-beyond)))) ∙
        none-broken))

  -- What is refused has the number of the first broken condition.
  pub denied_number : (e : Refusal) → Answers (Err e) → number_of e ≡ first_broken (value_conditions n c v l h x p)
  unfolding value_answer value_conditions table_conditions
  denied_number e d = go (first_broken (value_conditions n c v l h x p)) refl d
    where
      go : (q : ℕ) → first_broken (value_conditions n c v l h x p) ≡ q → Err e ≡ value_answer q n v l h x p → number_of e ≡ q
      go zero s d = let z : ⊥ = grind (arith, d) in absurd z
      go (suc r) s d =
          let k : e ≡ refusal_of (suc r) = search d in
          ap number_of k ∙ first_named (value_conditions n c v l h x p) r refl s
