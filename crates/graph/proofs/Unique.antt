-- A building operation has one answer, numbering included. The functions of the records, in order, are settled by the
-- contract; they tell the records one by one: the level by the columns of the function, low and high by its halves, whose
-- numbers are among the records before. So the tables are equal, and the root is the one number with the result's function.
use mathlib.Core.Path.{◌≡◌, refl, sym, ap, ◌∙◌, subst, subst⁻¹}
use mathlib.Core.Bool.{Bool, true, false}
use mathlib.Core.List.{List, [], ◌∷◌, ◌++◌}
use mathlib.Core.Logic.{◌⊎◌, inl, inr}
use Prim.Native.Nat.{ℕ, zero, suc, ◌+◌, ◌-◌, ◌<◌, ◌≤◌}
use native.Mathlib.Nat.{not-suc-le-zero}
use native.Mathlib.Omega.{arith}
use lib.Dec.{eqb}
use lib.ListN.{length, get_or, take, replicate}
use lib.Seq.{take_at, get_or_at, get_or-take, length-take-le, ext_get_or}
use borrow.Author.Tests.{eqb-true, eqb-false}
use Rattle.rule.specs.Func.{Fn}
use Rattle.rule.specs.Nodes.{Tree}
use Rattle.rule.specs.Refusal.{first_broken}
use Rattle.rule.proofs.Bools.{and_left, and_right, which}
use Rattle.graph.specs.Table.{Table, table_of, refers, good_record, good_table, record_tree, functions, node_fn, Agree}
use Rattle.graph.specs.Built.{Built}
use Rattle.graph.specs.Entry.{build_conditions, cleared, Refusing, Answered, Operated}
use Rattle.std.specs.Prelude.{Result, Ok}
use Rattle.rule.specs.declared.refusal.Refusal.{Refusal}
use Rattle.graph.proofs.Tests.{Good, IsRecord, record_good}
use Rattle.graph.proofs.Numbers.{equal_numbers}
use Rattle.graph.proofs.Agree.{agree_back, agree-refers, agree_fn}
use Rattle.graph.proofs.Records.{functions-length, record_fn, joined-low, joined-high}
use Rattle.graph.proofs.Added.{alike, count-is-need}

-- Tables that agree on the first i records, and whose records i have equal functions, have equal records i: the numbers
-- that the second refers to mean the same in the first.
module _ (n : ℕ) (T : Table) (T' : Table) (i : ℕ) (a : Agree T T' i) (g : good_table n T i ≡ true) (g' : good_table n T' i ≡ true)
    (r : Good n T i) (r' : Good n T' i) (e : record_tree n T i ≡ record_tree n T' i) where
  same_record : IsRecord T' i (T.level i) (T.low i) (T.high i)
  unfolding node_fn
  same_record =
      let q = alike n T i T' i r r' e in
      let k = T.level i in
      let m = q.more in
      let b = agree_back a in
      let low : refers T' i (k + 1) (T'.low i) ≡ true = subst (λ v. refers T' i (v + 1) (T'.low i) ≡ true) q.level r'.low in
      let high : refers T' i (k + 1) (T'.high i) ≡ true = subst (λ v. refers T' i (v + 1) (T'.high i) ≡ true) q.level r'.high in
      let here : node_fn T k m (T'.low i) (T'.high i) ≡ node_fn T' k m (T'.low i) (T'.high i) =
      λ j. (agree_fn T' T i b n g' m (k + 1) (T'.low i) low j, agree_fn T' T i b n g' m (k + 1) (T'.high i) high j) in
      let node : node_fn T k m (T'.low i) (T'.high i) ≡ node_fn T k m (T.low i) (T.high i) =
      here ∙ sym (record_fn T' k m i q.level) ∙ sym q.means ∙ record_fn T k m i refl in
      record {
        level = q.level;
        low = joined-low n T i m k (T'.low i) (T'.high i) (T.low i) (T.high i) g q.columns (agree-refers T' T i b (k + 1) (T'.low i) low) r.low node;
        high = joined-high n T i m k (T'.low i) (T'.high i) (T.low i) (T.high i) g q.columns (agree-refers T' T i b (k + 1) (T'.high i) high) r.high node;
      }

-- Agreement on one record more.
agree-next : (T : Table) (T' : Table) (i : ℕ) → Agree T T' i → IsRecord T' i (T.level i) (T.low i) (T.high i) → Agree T T' (suc i)
agree-next T T' i a r =
    record {
      level = λ j u. at T.level T'.level a.level r.level j u (which (eqb j i));
      low = λ j u. at T.low T'.low a.low r.low j u (which (eqb j i));
      high = λ j u. at T.high T'.high a.high r.high j u (which (eqb j i));
    }
  where
    at : (p : ℕ → ℕ) (p' : ℕ → ℕ) → ((j : ℕ) → j < i → p' j ≡ p j) → p' i ≡ p i → (j : ℕ) → j < suc i → (eqb j i ≡ true) ⊎ (eqb j i ≡ false) → p' j ≡ p j
    at p p' before here j u (inl e) = let q = eqb-true j i e in ap p' q ∙ here ∙ ap p (sym q)
    at p p' before here j u (inr e) = let q = eqb-false j i e in before j (omega arith)

-- The first functions of one more, and the last.
functions-first : (n : ℕ) (T : Table) (i : ℕ) → take i (functions n T (suc i)) ≡ functions n T i
unfolding functions
functions-first n T i = take_at (functions n T i) (record_tree n T i ∷ []) i (functions-length n T i)

functions_last : (n : ℕ) (T : Table) (i : ℕ) (d : Tree) → get_or (functions n T (suc i)) i d ≡ record_tree n T i
unfolding functions
functions_last n T i d = get_or_at (functions n T i) (record_tree n T i) [] d i (functions-length n T i)

-- Tables whose records have the same functions, in order, have the same records.
pub same_records : (n : ℕ) (T : Table) (T' : Table) (c : ℕ) → good_table n T c ≡ true → good_table n T' c ≡ true → functions n T c ≡ functions n T' c → Agree T T' c
unfolding good_table
same_records n T T' zero g g' e =
    record { level = λ j u. absurd (not-suc-le-zero u); low = λ j u. absurd (not-suc-le-zero u); high = λ j u. absurd (not-suc-le-zero u) }
same_records n T T' (suc i) g g' e =
    let before = and_left (good_table n T i) (good_record n T i) g in
    let before' = and_left (good_table n T' i) (good_record n T' i) g' in
    let a = same_records n T T' i before before' (sym (functions-first n T i) ∙ ap (take i) e ∙ functions-first n T' i) in
    let d = record_tree n T i in
    agree-next T T' i a
    (same_record n T T' i a before before'
    (record_good n T i (and_right (good_table n T i) (good_record n T i) g))
    (record_good n T' i (and_right (good_table n T' i) (good_record n T' i) g'))
    (sym (functions_last n T i d) ∙ ap (λ S. get_or S i d) e ∙ functions_last n T' i d))

-- Slices with the same first elements are equal where the rest is cleared.
same-cleared : (c : ℕ) (s : List ℕ) (t : List ℕ) → length s ≡ length t → c ≤ length s → ((j : ℕ) → j < c → get_or t j 0 ≡ get_or s j 0) → cleared c s ≡ cleared c t
unfolding cleared
same-cleared c s t w b h =
    ap (λ k. take c s ++ replicate (k - c) 0) w ∙
    ap (λ x. x ++ replicate (length t - c) 0)
    (ext_get_or 0 (take c s) (take c t) (length-take-le c s b ∙ sym (length-take-le c t (omega arith)))
    (λ j u. let v : j < c = omega (arith, length-take-le c s b) in get_or-take c s j 0 v ∙ sym (h j v) ∙ sym (get_or-take c t j 0 v)))

pub one_slice : (c : ℕ) (d : ℕ) (s : List ℕ) (t : List ℕ) → c ≡ d → length s ≡ length t → c ≤ length s → ((j : ℕ) → j < c → get_or t j 0 ≡ get_or s j 0) →
    s ≡ cleared c s → t ≡ cleared d t → s ≡ t
one_slice c d s t e w b a p q = p ∙ same-cleared c s t w b a ∙ ap (λ k. cleared k t) e ∙ sym q

-- Two answers with what they leave of the count and the slices are equal.
abbrev Same : Result ℕ Refusal → ℕ → List ℕ → List ℕ → List ℕ → Result ℕ Refusal → ℕ → List ℕ → List ℕ → List ℕ → Type 0
Same a₁ d₁ v₁ l₁ h₁ a₂ d₂ v₂ l₂ h₂ = (a₁ ≡ a₂) × (d₁ ≡ d₂) × (v₁ ≡ v₂) × (l₁ ≡ l₂) × (h₁ ≡ h₂)

module _ {n : ℕ} {c : ℕ} {v : List ℕ} {l : List ℕ} {h : List ℕ} {v₁ : List ℕ} {l₁ : List ℕ} {h₁ : List ℕ} {v₂ : List ℕ} {l₂ : List ℕ} {h₂ : List ℕ} where
  -- Two tables built for one function have as many records, the same ones, and the same number for it.
  module _ {k : ℕ} {m : ℕ} {f : Fn m} {x₁ : ℕ} {x₂ : ℕ} {c₁ : ℕ} {c₂ : ℕ} (b₁ : Built n c v l h v₁ l₁ h₁ k m f x₁ c₁) (b₂ : Built n c v l h v₂ l₂ h₂ k m f x₂ c₂) where
    pub built-count : c₁ ≡ c₂
    built-count = count-is-need b₁ ∙ sym (count-is-need b₂)

    good-second : good_table n (table_of v₂ l₂ h₂) c₁ ≡ true
    good-second = subst⁻¹ (λ d. good_table n (table_of v₂ l₂ h₂) d ≡ true) built-count b₂.sound.good

    pub built_records : Agree (table_of v₁ l₁ h₁) (table_of v₂ l₂ h₂) c₁
    built_records =
        same_records n (table_of v₁ l₁ h₁) (table_of v₂ l₂ h₂) c₁ b₁.sound.good good-second
        (b₁.adds ∙ sym b₂.adds ∙ ap (functions n (table_of v₂ l₂ h₂)) (sym built-count))

    pub built-number : k + m ≡ n → x₁ ≡ x₂
    built-number s =
        equal_numbers n (table_of v₂ l₂ h₂) c₁ good-second m k x₁ x₂ s
        (agree-refers (table_of v₁ l₁ h₁) (table_of v₂ l₂ h₂) c₁ built_records k x₁ b₁.number)
        (subst⁻¹ (λ d. refers (table_of v₂ l₂ h₂) d k x₂ ≡ true) built-count b₂.number)
        (agree_fn (table_of v₁ l₁ h₁) (table_of v₂ l₂ h₂) c₁ built_records n b₁.sound.good m k x₁ b₁.number ∙ b₁.means ∙ sym b₂.means)

  module _ {ranged : Bool} {f : Fn n} {a₁ : Result ℕ Refusal} {a₂ : Result ℕ Refusal} {d₁ : ℕ} {d₂ : ℕ} where
    done_unique : Answered n c v l h ranged f d₁ v₁ l₁ h₁ a₁ → Answered n c v l h ranged f d₂ v₂ l₂ h₂ a₂ → Same a₁ d₁ v₁ l₁ h₁ a₂ d₂ v₂ l₂ h₂
    unfolding table_of
    done_unique p q =
        let s₁ = p.built.sound.sized in
        let s₂ = q.built.sound.sized in
        let count = built-count p.built q.built in
        let agree = built_records p.built q.built in
        let wide : length v₁ ≡ length v₂ = p.built.length-kept ∙ sym q.built.length-kept in (
          p.answer ∙ ap Ok (built-number p.built q.built (omega arith)) ∙ sym q.answer,
          p.counted ∙ count ∙ sym q.counted,
          one_slice p.count q.count v₁ v₂ count wide s₁.count agree.level p.level q.level,
          one_slice p.count q.count l₁ l₂ count (s₁.low ∙ wide ∙ sym s₂.low) (omega (arith, s₁.count, s₁.low)) agree.low p.low q.low,
          one_slice p.count q.count h₁ h₂ count (s₁.high ∙ wide ∙ sym s₂.high) (omega (arith, s₁.count, s₁.high)) agree.high p.high q.high,
        )

    refused_unique : (r : ℕ) → Refusing n c v l h ranged f d₁ v₁ l₁ h₁ r a₁ → Refusing n c v l h ranged f d₂ v₂ l₂ h₂ r a₂ → Same a₁ d₁ v₁ l₁ h₁ a₂ d₂ v₂ l₂ h₂
    refused_unique r p q =
        (p.answer ∙ sym q.answer, p.counted ∙ sym q.counted, p.level ∙ sym q.level, p.low ∙ sym q.low, p.high ∙ sym q.high)

    -- What the contract of a building operation allows is one answer, one count, and one content of the three slices.
    pub operated_unique : Operated n c v l h ranged f d₁ v₁ l₁ h₁ a₁ → Operated n c v l h ranged f d₂ v₂ l₂ h₂ a₂ →
        (a₁ ≡ a₂) × (d₁ ≡ d₂) × (v₁ ≡ v₂) × (l₁ ≡ l₂) × (h₁ ≡ h₂)
    operated_unique p q = go (first_broken (build_conditions n c v l h ranged f)) refl
      where
        go : (b : ℕ) → first_broken (build_conditions n c v l h ranged f) ≡ b → Same a₁ d₁ v₁ l₁ h₁ a₂ d₂ v₂ l₂ h₂
        go zero e = done_unique (p.done e) (q.done e)
        go (suc r) e = refused_unique (suc r) (p.refused r e) (q.refused r e)
