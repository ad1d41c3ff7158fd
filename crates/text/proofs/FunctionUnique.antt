-- Reading a function text has one answer, and leaves one content of the three slices, numbering included: the functions of the
-- records, in order, are settled by the text, and they tell the records one by one; L and U are the one number with their function.
use mathlib.Core.Path.{◌≡◌, refl, sym, ap, ◌∙◌, subst⁻¹}
use mathlib.Core.Bool.{true}
use mathlib.Core.List.{List, ◌∷◌}
use Prim.Native.Nat.{ℕ, zero, suc}
use native.Mathlib.Omega.{arith}
use lib.ListN.{length}
use Rattle.std.specs.Prelude.{Result, Ok}
use Rattle.rule.specs.Func.{Fn}
use Rattle.rule.specs.declared.refusal.Refused.{Refused}
use Rattle.rule.specs.Rows.{Kind, Row}
use Rattle.rule.proofs.Bools.{clash}
use Rattle.graph.specs.Table.{table_of, refers, good_table, functions, Agree}
use Rattle.graph.specs.Run.{Names}
use Rattle.graph.proofs.Agree.{agree-refers, agree_fn}
use Rattle.graph.proofs.Numbers.{equal_numbers}
use Rattle.graph.proofs.Records.{functions-length}
use Rattle.graph.proofs.Refusals.{first-kept, others_kept}
use Rattle.graph.proofs.Unique.{same_records, one_slice}
use Rattle.text.specs.Outcome.{Outcome, good, fault, outcome}
use Rattle.text.specs.Candidate.{is_good}
use Rattle.text.specs.Function.{function_refusal, NotRead, HasRead, ReadsFunction}
use Rattle.text.specs.declared.function.Function.{Function}
use Rattle.text.proofs.FunctionEntry.{short_kept, sizes_kept, good_kept, rooms, first-broken}

-- Two answers with what they leave in the slices are equal.
abbrev Same : Result Function Refused → List ℕ → List ℕ → List ℕ → Result Function Refused → List ℕ → List ℕ → List ℕ → Type 0
Same a₁ v₁ l₁ h₁ a₂ v₂ l₂ h₂ = (a₁ ≡ a₂) × (v₁ ≡ v₂) × (l₁ ≡ l₂) × (h₁ ≡ h₂)

module _ {text v l h v₁ l₁ h₁ v₂ l₂ h₂ : List ℕ} {n : ℕ} {t : Kind} {rows : List Row} {a₁ a₂ : Result Function Refused}
    (p : HasRead text v l h v₁ l₁ h₁ n t rows a₁) (q : HasRead text v l h v₂ l₂ h₂ n t rows a₂) where
  same_count : p.count ≡ q.count
  same_count =
      sym (functions-length n (table_of v₁ l₁ h₁) p.count) ∙ ap length (p.adds ∙ sym q.adds) ∙
      functions-length n (table_of v₂ l₂ h₂) q.count

  good-second : good_table n (table_of v₂ l₂ h₂) p.count ≡ true
  good-second = subst⁻¹ (λ d. good_table n (table_of v₂ l₂ h₂) d ≡ true) same_count q.sound.good

  same-table : Agree (table_of v₁ l₁ h₁) (table_of v₂ l₂ h₂) p.count
  same-table =
      same_records n (table_of v₁ l₁ h₁) (table_of v₂ l₂ h₂) p.count p.sound.good good-second
      (p.adds ∙ sym q.adds ∙ ap (functions n (table_of v₂ l₂ h₂)) (sym same_count))

  same_number : {f : Fn n} {x y : ℕ} → Names v₁ l₁ h₁ p.count 0 n f x → Names v₂ l₂ h₂ q.count 0 n f y → x ≡ y
  same_number {f} {x} {y} a b =
      equal_numbers n (table_of v₂ l₂ h₂) p.count good-second n 0 x y (omega arith)
      (agree-refers (table_of v₁ l₁ h₁) (table_of v₂ l₂ h₂) p.count same-table 0 x a.number)
      (subst⁻¹ (λ d. refers (table_of v₂ l₂ h₂) d 0 y ≡ true) same_count b.number)
      (agree_fn (table_of v₁ l₁ h₁) (table_of v₂ l₂ h₂) p.count same-table n p.sound.good n 0 x a.number ∙ a.means ∙ sym b.means)

  read_unique : Same a₁ v₁ l₁ h₁ a₂ v₂ l₂ h₂
  unfolding table_of
  read_unique =
      let s₁ = p.sound.sized in
      let s₂ = q.sound.sized in
      let wide : length v₁ ≡ length v₂ = p.length-kept ∙ sym q.length-kept in (
        p.answer ∙ (λ i. Ok (record { columns = n; count = same_count i; lower = same_number p.on q.on i; upper = same_number p.on_or_dc q.on_or_dc i })) ∙ sym q.answer,
        one_slice p.count q.count v₁ v₂ same_count wide s₁.count same-table.level p.level q.level,
        one_slice p.count q.count l₁ l₂ same_count (s₁.low ∙ wide ∙ sym s₂.low) (omega (arith, s₁.count, s₁.low)) same-table.low p.low q.low,
        one_slice p.count q.count h₁ h₂ same_count (s₁.high ∙ wide ∙ sym s₂.high) (omega (arith, s₁.count, s₁.high)) same-table.high p.high q.high,
      )

-- Where nothing is refused the text is good.
done-good : (text v l h : List ℕ) → function_refusal text v l h ≡ 0 → is_good (outcome 0 text) ≡ true
done-good text v l h e =
    let a = short_kept text v l h in
    let b = sizes_kept text v l h in
    let g = good_kept text v l h in
    let r = rooms text v l h (outcome 0 text) in
    first-kept g r (λ z. omega arith)
    (others_kept b (g ∷ r) (λ z. omega arith) (others_kept a (b ∷ g ∷ r) (λ z. omega arith) (sym (first-broken text v l h) ∙ e)))

module _ {text v l h v₁ l₁ h₁ v₂ l₂ h₂ : List ℕ} {a₁ a₂ : Result Function Refused} where
  refused_unique : {r : ℕ} → NotRead text v l h v₁ l₁ h₁ r a₁ → NotRead text v l h v₂ l₂ h₂ r a₂ → Same a₁ v₁ l₁ h₁ a₂ v₂ l₂ h₂
  refused_unique p q =
      (p.answer ∙ sym q.answer, p.level ∙ sym q.level, p.low ∙ sym q.low, p.high ∙ sym q.high)

  -- What the contract allows is one answer, and one content of the three slices.
  pub reads_function_unique : ReadsFunction text v l h v₁ l₁ h₁ a₁ → ReadsFunction text v l h v₂ l₂ h₂ a₂ →
      (a₁ ≡ a₂) × (v₁ ≡ v₂) × (l₁ ≡ l₂) × (h₁ ≡ h₂)
  unfolding is_good
  reads_function_unique p q = go (function_refusal text v l h) refl
    where
      done : (w : Outcome) → outcome 0 text ≡ w → function_refusal text v l h ≡ 0 → Same a₁ v₁ l₁ h₁ a₂ v₂ l₂ h₂
      done (good n t rows) o e = read_unique (p.done e n t rows o) (q.done e n t rows o)
      done (fault k) o e = clash (done-good text v l h e) (ap is_good o)

      go : (r : ℕ) → function_refusal text v l h ≡ r → Same a₁ v₁ l₁ h₁ a₂ v₂ l₂ h₂
      go zero e = done (outcome 0 text) refl e
      go (suc r) e = refused_unique (p.refused r e) (q.refused r e)
