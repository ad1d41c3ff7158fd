-- Two operations one after the other on a lent table: each way out of them.
use mathlib.Core.Path.{◌≡◌, sym, ◌∙◌, subst, subst⁻¹}
use Prim.Native.Nat.{ℕ, ◌+◌, ◌-◌}
use native.Mathlib.Omega.{arith}
use Rattle.std.specs.Prelude.{Option, Some, None}
use Rattle.rule.specs.Func.{joined}
use Rattle.rule.specs.Nodes.{nodes}
use Rattle.graph.specs.Sound.{RootedTwice}
use Rattle.graph.specs.Operation.{op_of}
use Rattle.graph.specs.Built.{Built, MadeOf}
use Rattle.graph.specs.Lent.{RootsIn}
use Rattle.graph.specs.declared.build.TableMut.{TableMut}
use Rattle.graph.proofs.Applying.{Promise}
use Rattle.graph.proofs.Runs.{built-run, built-names, lacking_short, short-more, run_then, run_short, stays, stays_fn, names_stay}
use Rattle.steps.specs.Run.{FourRoots, TwoOf, result_of}
use Rattle.steps.specs.declared.run.Task.{Task}

-- What two operations promise of a lent table, over the columns from column k on.
unfoldable pub TwoPromise : TableMut → ℕ → Task → Task → TableMut → Option (ℕ × ℕ) → Type 0
TwoPromise t k p q t' r =
    (m : ℕ) → k + m ≡ t.columns →
    TwoOf t.columns t.count t.level.now t.low.now t.high.now t'.level.now t'.low.now t'.high.now k m
    (result_of p.op t.level.now t.low.now t.high.now k m p.a p.b) (result_of q.op t.level.now t.low.now t.high.now k m q.a q.b) t'.count r

module _ (t : TableMut) (k : ℕ) (first : Task) (then : Task) (p : FourRoots t.columns t.count t.level.now t.low.now t.high.now k first.a first.b then.a then.b) where
  -- The first operation does not fit.
  pub first_full : (t₁ : TableMut) → Promise first.op t k first.a first.b t₁ None → TwoPromise t k first then t₁ None
  unfolding Promise MadeOf TwoPromise TwoOf result_of
  first_full t₁ q = λ m s. short-more (nodes m _) (nodes m _) (lacking_short (q m s))

  module _ (t₁ : TableMut) (e₁ : t₁.columns ≡ t.columns) (x : ℕ) (q : Promise first.op t k first.a first.b t₁ (Some x)) where
    first-built : (m : ℕ) → k + m ≡ t.columns →
        Built t.columns t.count t.level.now t.low.now t.high.now t₁.level.now t₁.low.now t₁.high.now k m (result_of first.op t.level.now t.low.now t.high.now k m first.a first.b) x t₁.count
    unfolding Promise MadeOf result_of
    first-built m s = q m s

    -- The other operands are still in use.
    pub second-roots : RootsIn t₁ k then.a then.b
    second-roots =
        let b₁ = first-built (t.columns - k) (omega (arith, p.first.column)) in
        subst⁻¹ (λ n. RootedTwice n t₁.count t₁.level.now t₁.low.now t₁.high.now k then.a then.b) e₁
        (record {
          sound = b₁.sound;
          column = p.first.column;
          first = stays _ k then.a (built-run b₁) p.second.first;
          second = stays _ k then.b (built-run b₁) p.second.second;
        })

    -- Their result is what it would have been.
    same-result : (m : ℕ) → k + m ≡ t.columns →
        result_of then.op t₁.level.now t₁.low.now t₁.high.now k m then.a then.b ≡ result_of then.op t.level.now t.low.now t.high.now k m then.a then.b
    unfolding result_of
    same-result m s =
        let b₁ = built-run (first-built m s) in
        λ i.
        joined (op_of then.op) m (stays_fn _ k m then.a p.first.sound b₁ p.second.first i) (stays_fn _ k m then.b p.first.sound b₁ p.second.second i)

    second-made : (t₂ : TableMut) (r : Option ℕ) → Promise then.op t₁ k then.a then.b t₂ r → (m : ℕ) → k + m ≡ t.columns →
        MadeOf t.columns t₁.count t₁.level.now t₁.low.now t₁.high.now t₂.level.now t₂.low.now t₂.high.now k m (result_of then.op t.level.now t.low.now t.high.now k m then.a then.b) t₂.count r
    unfolding Promise result_of
    second-made t₂ r q' m s =
        subst
        (λ n. MadeOf n t₁.count t₁.level.now t₁.low.now t₁.high.now t₂.level.now t₂.low.now t₂.high.now k m (result_of then.op t.level.now t.low.now t.high.now k m then.a then.b) t₂.count r)
        e₁
        (subst (λ f. MadeOf t₁.columns t₁.count t₁.level.now t₁.low.now t₁.high.now t₂.level.now t₂.low.now t₂.high.now k m f t₂.count r) (same-result m s)
        (q' m (s ∙ sym e₁)))

    -- The second does not fit after the first.
    pub second_full : (t₂ : TableMut) → Promise then.op t₁ k then.a then.b t₂ None → TwoPromise t k first then t₂ None
    unfolding MadeOf TwoPromise TwoOf
    second_full t₂ q' = λ m s. run_short _ _ (built-run (first-built m s)) (lacking_short (second-made t₂ None q' m s))

    -- Both fit.
    pub both-done : (t₂ : TableMut) (y : ℕ) → Promise then.op t₁ k then.a then.b t₂ (Some y) → TwoPromise t k first then t₂ (Some (x, y))
    unfolding MadeOf TwoPromise TwoOf
    both-done t₂ y q' =
        λ m s.
        let b₁ = first-built m s in
        let b₂ = second-made t₂ (Some y) q' m s in
        record {
          run = run_then _ _ (built-run b₁) (built-run b₂);
          first = names_stay b₁.sound (built-run b₂) (built-names b₁);
          second = built-names b₂;
        }
