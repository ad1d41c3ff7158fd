-- The entry of the checker: the conditions in their order, then the first malformed cube, then the verdict.
use mathlib.Core.Path.{◌≡◌, refl, sym, ap, ◌∙◌}
use mathlib.Core.Bool.{cond}
use mathlib.Core.List.{List, [], ◌∷◌, ◌++◌}
use Prim.Native.Nat.{ℕ, zero, suc}
use native.Mathlib.Omega.{arith}
use lib.Dec.{eqb}
use lib.ListN.{length}
use borrow.Author.Tests.{eq-eqb, ne_eqb}
use Rattle.std.specs.Prelude.{Some, None, Result, Ok, Err}
use Rattle.std.specs.Result.{IsErrAnd}
use Rattle.rule.specs.Number.{first_malformed}
use Rattle.rule.specs.Verdict.{verdict_numbers}
use Rattle.rule.specs.Refusal.{Condition, first_broken, cube_malformed, number_of, refusal_of, passed, some_number}
use Rattle.rule.specs.declared.refusal.Refusal.{Refusal}
use Rattle.rule.specs.declared.refusal.Refusal.TheVariants.{CubeMalformed}
use Rattle.rule.specs.declared.refusal.Refused.{Refused}
use Rattle.rule.proofs.Malformed.{formed-at, formed_by, none_malformed, all-formed}
use Rattle.rule.proofs.Refusals.{passed_ok, passed_err, ok_passed, some_number_none, some_number_some, none_some_number, first_named}
use Rattle.graph.specs.Table.{table_of, fn_of}
use Rattle.graph.specs.Entry.{table_conditions, input_conditions}
use Rattle.graph.proofs.Refusals.{broken-here, kept_next, none-broken, broken-before}
use Rattle.graph.proofs.Roots.{input_below, past_input, input_size, input_roots}
use Rattle.checker.specs.Judging.{Judged, judged_as}
use Rattle.checker.specs.Contract.{Formed, Judging, VerdictGiven}
use Rattle.checker.specs.Entry.{lower, upper, refusal, answer_for}

-- A refusal that returns something.
refused-is : (x : Refused) (r : Refusal) (p : ℕ) → x.refusal ≡ r → x.returned ≡ p → ◌≡◌ {A = Result Judged Refused} (Err x) (Err (record { refusal = r; returned = p }))
refused-is x r p e f = λ i. Err (record { refusal = e i; returned = f i })

module _ (n : ℕ) (c : ℕ) (v : List ℕ) (l : List ℕ) (h : List ℕ) (a : ℕ) (b : ℕ) (list : List ℕ) where
  abbrev formed_kept : Condition
  formed_kept = record { number = cube_malformed; kept = eqb (first_malformed n list) 0 }

  -- What the entry answers.
  abbrev pub Answers : Result Judged Refused → Type 0
  Answers r = r ≡ answer_for n c v l h a b list (refusal n c v l h a b list)

  returns_none : (q : ℕ) → (q ≡ 0 → ⊥) → (q ≡ cube_malformed → ⊥) → Err (record { refusal = refusal_of q; returned = 0 }) ≡ answer_for n c v l h a b list q
  unfolding answer_for
  returns_none zero y d = absurd (y refl)
  returns_none (suc q) y d =
      ap (λ t. Err (record { refusal = refusal_of (suc q); returned = cond t (first_malformed n list) 0 })) (sym (ne_eqb (suc q) cube_malformed d))

  -- A broken condition of the input is the answer.
  module _ (r : Refusal) (e : Err r ≡ passed (first_broken (input_conditions n c v l h a b (length list)))) where
    by_input : (x : Refused) → x.refusal ≡ r → x.returned ≡ 0 → Answers (Err x)
    unfolding refusal
    by_input x f g =
        let q = first_broken (input_conditions n c v l h a b (length list)) in
        let p = passed_err q r (sym e) in
        let z : q ≡ 0 → ⊥ = λ o. omega (arith, p.1) in
        refused-is x (refusal_of q) 0 (f ∙ p.2) g ∙
        returns_none q z (λ o. omega (arith, o, input_below n c v l h a b (length list))) ∙
        ap (answer_for n c v l h a b list) (sym (broken-before (input_conditions n c v l h a b (length list)) (formed_kept ∷ []) q z refl))

    pub input_refused : (x : Result Judged Refused) → IsErrAnd x (λ y. (y.refusal ≡ r) × (y.returned ≡ 0)) → Answers x
    input_refused (Ok j) k = absurd k
    input_refused (Err y) k = by_input y k.0 k.1

  module _ (u : Unit) (e : Ok u ≡ passed (first_broken (input_conditions n c v l h a b (length list)))) where
    all-kept : first_broken (input_conditions n c v l h a b (length list)) ≡ 0
    all-kept = passed_ok (first_broken (input_conditions n c v l h a b (length list))) u (sym e)

    by_cubes : refusal n c v l h a b list ≡ first_broken (formed_kept ∷ [])
    unfolding refusal
    by_cubes = past_input n c v l h a b (length list) (formed_kept ∷ []) all-kept

    pub cube-refused : (p : ℕ) → Some p ≡ some_number (first_malformed n list) → (x : Refused) → x.refusal ≡ CubeMalformed → x.returned ≡ p → Answers (Err x)
    unfolding answer_for refusal_of
    cube-refused p q x f g =
        let k = some_number_some (first_malformed n list) p (sym q) in
        refused-is x CubeMalformed (first_malformed n list) f (g ∙ sym k.0) ∙
        ap (answer_for n c v l h a b list) (sym (by_cubes ∙ broken-here formed_kept [] (ne_eqb (first_malformed n list) 0 (λ z. omega (arith, k)))))

    module _ (q : None ≡ some_number (first_malformed n list)) where
      none_bad : first_malformed n list ≡ 0
      none_bad = some_number_none (first_malformed n list) (sym q)

      pub judge_asks : Judging n c v l h a b list
      judge_asks =
          record {
            roots = input_roots n c v l h a b (length list) all-kept;
            room = input_size n c v l h a b (length list) all-kept;
            formed = record { formed = formed-at n list (all-formed n list none_bad) };
          }

      pub judged-answer : (j : Judged) → VerdictGiven n v l h a b list j → Answers (Ok j)
      unfolding answer_for lower upper
      judged-answer j g =
          ap Ok g.verdict ∙
          ap (answer_for n c v l h a b list)
          (sym (by_cubes ∙ kept_next formed_kept [] (eq-eqb (first_malformed n list) 0 none_bad) ∙ none-broken))

  -- For a good input without malformed cubes the answer is the rule's verdict.
  pub good-judged : first_broken (input_conditions n c v l h a b (length list)) ≡ 0 → Formed n list
      → answer_for n c v l h a b list (refusal n c v l h a b list) ≡ Ok (judged_as (verdict_numbers n (fn_of (table_of v l h) 0 n a) (fn_of (table_of v l h) 0 n b) list))
  good-judged good w =
      sym
      (judged-answer tt (sym (ok_passed (first_broken (input_conditions n c v l h a b (length list))) good))
      (sym (none_some_number (first_malformed n list) (none_malformed n list (formed_by n list w.formed))))
      (judged_as (verdict_numbers n (fn_of (table_of v l h) 0 n a) (fn_of (table_of v l h) 0 n b) list)) (record { verdict = refl }))

  -- A refusal has the number of the first broken condition.
  pub refused_number : (x : Refused) → Answers (Err x) → number_of x.refusal ≡ refusal n c v l h a b list
  unfolding refusal answer_for input_conditions table_conditions
  refused_number x e = go (refusal n c v l h a b list) refl e
    where
      go : (q : ℕ) → refusal n c v l h a b list ≡ q → Err x ≡ answer_for n c v l h a b list q → number_of x.refusal ≡ q
      go zero s p = let z : ⊥ = grind (arith, p) in absurd z
      go (suc r) s p =
          let k : x ≡ record { refusal = refusal_of (suc r); returned = cond (eqb (suc r) cube_malformed) (first_malformed n list) 0 } = search p in
          ap (λ y. number_of y.refusal) k ∙ first_named (input_conditions n c v l h a b (length list) ++ (formed_kept ∷ [])) r refl s

  -- The contract decides the answer; nothing lent is written.
  pub check_unique : {r₁ : Result Judged Refused} {r₂ : Result Judged Refused} → r₁ ≡ answer_for n c v l h a b list (refusal n c v l h a b list) → r₂ ≡ answer_for n c v l h a b list (refusal n c v l h a b list) → r₁ ≡ r₂
  check_unique p q = p ∙ sym q
