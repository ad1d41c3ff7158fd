-- The building operations: the answer to what was made, one law for each way out, and the function of a column.
use mathlib.Core.Path.{◌≡◌, refl, sym, ap, ◌∙◌, subst, subst⁻¹, subst₃}
use mathlib.Core.Bool.{Bool, true, false, cond}
use mathlib.Core.List.{List, [], ◌∷◌}
use Prim.Native.Nat.{ℕ, zero, suc, ◌+◌, ◌<◌, ◌≤◌}
use native.Mathlib.Nat.{not-suc-le-zero}
use native.Mathlib.Omega.{arith}
use lib.Dec.{leb}
use lib.ListN.{length}
use borrow.Author.Tests.{ne_eqb, le-leb, lt-leb}
use Rattle.rule.specs.Func.{Fn, constant}
use Rattle.rule.specs.Nodes.{nodes, add_all}
use Rattle.rule.specs.Refusal.{Condition, first_broken, out_of_range, nodes_lack, number_of, refusal_of, passed}
use Rattle.graph.specs.Table.{table_of, functions, node_fn}
use Rattle.graph.specs.Sound.{Sized}
use Rattle.graph.specs.Built.{Built, Lacking, MadeOf}
use Rattle.graph.specs.Entry.{numbers_of, table_conditions, build_conditions, cleared, count_after, answer_to, Settled, left_by, Refusing, Answered, Operated, result_of, variable_fn}
use Rattle.graph.specs.Lent.{table, MadeIn, SettleAsks, GivenBack, SettledIn}
use Rattle.graph.specs.declared.operation.Op.{Op}
use Rattle.graph.specs.declared.build.TableMut.{TableMut}
use Rattle.std.specs.Prelude.{Option, Some, None, Result, Ok, Err}
use Rattle.rule.specs.declared.refusal.Refusal.{Refusal}
use Rattle.rule.proofs.Refusals.{first_named, passed_err}
use Rattle.graph.proofs.Numbers.{fn_zero, fn_one}
use Rattle.graph.proofs.Records.{functions-length}
use Rattle.graph.proofs.Entries.{built-cleared}
use Rattle.graph.proofs.Building.{made_idle}
use Rattle.graph.proofs.Applying.{Promise}
use Rattle.graph.proofs.Refusals.{not_broken, broken-here, kept_next, none-broken, broken-before, kept-before, passed_none, passed_sound}
use Rattle.graph.proofs.Clearing.{cleared-again, cleared_alike}

-- The count after what was made is one that the slices hold.
sized-fits : {c : ℕ} {v : List ℕ} {l : List ℕ} {h : List ℕ} → Sized c v l h → (c ≤ length v) × (c ≤ length l) × (c ≤ length h)
sized-fits s = omega arith

pub made_fits : (t : TableMut) (t' : TableMut) (k : ℕ) (m : ℕ) (f : Fn m) (made : Option ℕ) → MadeIn t t' k m f made → SettleAsks t.count t' made
unfolding MadeOf count_after
made_fits t t' k m f (Some x) b = let s = sized-fits b.sound.sized in record { level = s.0; low = s.1; high = s.2 }
made_fits t t' k m f None b = let s = sized-fits b.sized in record { level = s.0; low = s.1; high = s.2 }

-- Settling, where it is told what was made.
module _ (c : ℕ) (t : TableMut) (made : Option ℕ) (told : Option ℕ) (e : made ≡ told) where
  pub told-fits : SettleAsks c t made →
      (count_after told t.count c ≤ length t.level.now) × (count_after told t.count c ≤ length t.low.now) × (count_after told t.count c ≤ length t.high.now)
  told-fits s = subst (λ m. (count_after m t.count c ≤ length t.level.now) × (count_after m t.count c ≤ length t.low.now) × (count_after m t.count c ≤ length t.high.now)) e (s.level, s.low, s.high)

  pub told_settled : (t' : TableMut) → GivenBack (count_after told t.count c) t t' → SettledIn made c t t' (answer_to told)
  told_settled t' g =
      subst⁻¹ (λ m. SettledIn m c t t' (answer_to told)) e
      (record { answer = refl; count = g.count; level = g.level; low = g.low; high = g.high })

-- A building operation with the result f.
module _ (n : ℕ) (c : ℕ) (v : List ℕ) (l : List ℕ) (h : List ℕ) (ranged : Bool) (f : Fn n) where
  abbrev range_kept : Condition
  range_kept = record { number = out_of_range; kept = ranged }

  abbrev room_kept : Condition
  room_kept =
      record { number = nodes_lack; kept = leb (length (add_all (functions n (table_of v l h) c) (nodes n f))) (length v) }

  -- What is refused first.
  table-broken : (r : ℕ) → (r ≡ 0 → ⊥) → first_broken (table_conditions n c v l h) ≡ r → first_broken (build_conditions n c v l h ranged f) ≡ r
  unfolding build_conditions
  table-broken r z e = broken-before (table_conditions n c v l h) (range_kept ∷ room_kept ∷ []) r z e

  past_table : first_broken (table_conditions n c v l h) ≡ 0 → first_broken (build_conditions n c v l h ranged f) ≡ first_broken (range_kept ∷ room_kept ∷ [])
  unfolding build_conditions table_conditions
  past_table e = kept-before (table_conditions n c v l h) (range_kept ∷ room_kept ∷ []) refl e

  past_range : first_broken (table_conditions n c v l h) ≡ 0 → ranged ≡ true → first_broken (build_conditions n c v l h ranged f) ≡ first_broken (room_kept ∷ [])
  past_range e t = past_table e ∙ kept_next range_kept (room_kept ∷ []) t

  -- Each number that is given is a refusal's.
  named_broken : (r : ℕ) → first_broken (build_conditions n c v l h ranged f) ≡ suc r → number_of (refusal_of (suc r)) ≡ suc r
  unfolding build_conditions table_conditions
  named_broken r e = first_named (build_conditions n c v l h ranged f) r refl e

  -- What stays of a slice at a refusal other than 7.
  unchanged : (r : ℕ) → (r ≡ nodes_lack → ⊥) → (s : List ℕ) → s ≡ left_by r c s
  unfolding left_by
  unchanged r k s = sym (ap (λ b. cond b (cleared c s) s) (ne_eqb r nodes_lack k))

  -- A refusal other than 7 changes nothing.
  refused_unchanged : (r : ℕ) → (r ≡ 0 → ⊥) → (r ≡ nodes_lack → ⊥) → first_broken (build_conditions n c v l h ranged f) ≡ r → Operated n c v l h ranged f c v l h (Err (refusal_of r))
  unfolding numbers_of
  refused_unchanged r z k e =
      record {
        refused =
            λ p d.
            let q : r ≡ suc p = sym e ∙ d in
            record {
              answer = ap (λ i. Err (refusal_of i)) q;
              counted = refl;
              numbers = λ j. record { refusal = (ap (λ i. number_of (refusal_of i)) q ∙ named_broken p d) j; returned = 0; root = 0; count = c };
              level = unchanged (suc p) (λ o. k (q ∙ o)) v;
              low = unchanged (suc p) (λ o. k (q ∙ o)) l;
              high = unchanged (suc p) (λ o. k (q ∙ o)) h;
            };
        done = λ d. absurd (z (sym e ∙ d));
      }

  pub operated_bad_table : (e : Refusal) → Err e ≡ passed (first_broken (table_conditions n c v l h)) → Operated n c v l h ranged f c v l h (Err e)
  unfolding table_conditions
  operated_bad_table e q =
      let r = first_broken (table_conditions n c v l h) in
      let p = passed_err r e (sym q) in
      let z : r ≡ 0 → ⊥ = λ o. omega (arith, p.1) in
      subst⁻¹ (λ i. Operated n c v l h ranged f c v l h (Err i)) p.2
      (refused_unchanged r z
      (not_broken nodes_lack (λ o. omega arith) (table_conditions n c v l h) refl)
      (table-broken r z refl))

  module _ (u : Unit) (z : Ok u ≡ passed (first_broken (table_conditions n c v l h))) where
    pub operated-out_of_range : ranged ≡ false → Operated n c v l h ranged f c v l h (Err (refusal_of out_of_range))
    operated-out_of_range o =
        refused_unchanged out_of_range (λ q. omega arith) (λ q. omega arith)
        (past_table (passed_none n c v l h u z) ∙ broken-here range_kept (room_kept ∷ []) o)

    -- What was made is settled.
    module _ (v₁ : List ℕ) (l₁ : List ℕ) (h₁ : List ℕ) (c₁ : ℕ) (c₂ : ℕ) (v₂ : List ℕ) (l₂ : List ℕ) (h₂ : List ℕ) (a : Result ℕ Refusal) where
      answered : (x : ℕ) → Built n c v l h v₁ l₁ h₁ 0 n f x c₁ → Settled (Some x) c c₁ v₁ l₁ h₁ c₂ v₂ l₂ h₂ a → Answered n c v l h ranged f c₂ v₂ l₂ h₂ a
      unfolding count_after answer_to numbers_of
      answered x b s =
          record {
            root = x;
            count = c₁;
            answer = s.answer;
            counted = s.count;
            numbers = λ i. numbers_of (s.answer i) (s.count i);
            built =
                subst₃ (λ w m i. Built n c v l h w m i 0 n f x c₁) (sym s.level) (sym s.low) (sym s.high) (built-cleared b);
            level = stays v₁ v₂ b.sound.sized.count s.level;
            low = stays l₁ l₂ (omega (arith, b.sound.sized.count, b.sound.sized.low)) s.low;
            high = stays h₁ h₂ (omega (arith, b.sound.sized.count, b.sound.sized.high)) s.high;
          }
        where
          stays : (t : List ℕ) (u : List ℕ) → c₁ ≤ length t → u ≡ cleared c₁ t → u ≡ cleared c₁ u
          stays t u k e = e ∙ sym (cleared-again c₁ t k) ∙ ap (cleared c₁) (sym e)

      lacked : Sized c v l h → Lacking n c v l h v₁ l₁ h₁ 0 n f → Settled None c c₁ v₁ l₁ h₁ c₂ v₂ l₂ h₂ a → Refusing n c v l h ranged f c₂ v₂ l₂ h₂ nodes_lack a
      unfolding count_after answer_to left_by table_of numbers_of refusal_of
      lacked z b s =
          record {
            answer = s.answer;
            counted = s.count;
            numbers = λ i. numbers_of (s.answer i) (s.count i);
            level = s.level ∙ cleared_alike c v₁ v b.length-kept b.kept.level;
            low = s.low ∙ cleared_alike c l₁ l (b.sized.low ∙ b.length-kept ∙ sym z.low) b.kept.low;
            high = s.high ∙ cleared_alike c h₁ h (b.sized.high ∙ b.length-kept ∙ sym z.high) b.kept.high;
          }

      pub operated_settled : ranged ≡ true → (made : Option ℕ) → MadeOf n c v l h v₁ l₁ h₁ 0 n f c₁ made →
          Settled made c c₁ v₁ l₁ h₁ c₂ v₂ l₂ h₂ a → Operated n c v l h ranged f c₂ v₂ l₂ h₂ a
      unfolding MadeOf
      operated_settled t (Some x) b s =
          let e = past_range (passed_none n c v l h u z) t ∙ kept_next room_kept [] (le-leb (length (add_all (functions n (table_of v l h) c) (nodes n f))) (length v) (fits b)) ∙ none-broken in
          record { refused = λ p d. let w : ⊥ = omega (arith, sym e ∙ d) in absurd w; done = λ d. answered x b s }
        where
          fits : Built n c v l h v₁ l₁ h₁ 0 n f x c₁ → length (add_all (functions n (table_of v l h) c) (nodes n f)) ≤ length v
          fits b = omega (arith, ap length b.adds, functions-length n (table_of v₁ l₁ h₁) c₁, b.sound.sized.count, b.length-kept)
      operated_settled t None b s =
          let e = past_range (passed_none n c v l h u z) t ∙ broken-here room_kept [] (lt-leb (length (add_all (functions n (table_of v l h) c) (nodes n f))) (length v) b.lacks) in
          record {
            refused = λ p d. subst (λ i. Refusing n c v l h ranged f c₂ v₂ l₂ h₂ i a) (sym e ∙ d) (lacked (passed_sound n c v l h u z).sized b s);
            done = λ d. let w : ⊥ = omega (arith, sym e ∙ d) in absurd w;
          }

-- The result of an operation, over all columns.
pub result_made : (op : Op) (t : TableMut) (a : ℕ) (b : ℕ) (t' : TableMut) (made : Option ℕ) → Promise op t 0 a b t' made →
    MadeIn t t' 0 t.columns (result_of op t.columns t.level.now t.low.now t.high.now a b) made
unfolding result_of Promise
result_made op t a b t' made p = p t.columns (omega arith)

-- The function of a column: its node has the constants for halves, and no column before it changes that.
module _ (t : TableMut) (t' : TableMut) (made : Option ℕ) (j : ℕ) (node : (m : ℕ) → j + suc m ≡ t.columns → MadeIn t t' j (suc m) (node_fn (table t) j m 0 1) made) where
  constants : (m : ℕ) → node_fn (table t) j m 0 1 ≡ (constant m false, constant m true)
  unfolding node_fn
  constants m = λ i. (fn_zero (table t) (j + 1) m i, fn_one (table t) (j + 1) m i)

  carried : (m : ℕ) (w : ℕ) (k : ℕ) → k + w ≡ j → k + m ≡ t.columns → w < m → MadeIn t t' k m (variable_fn m w) made
  unfolding variable_fn
  carried zero w k e s u = absurd (not-suc-le-zero u)
  carried (suc m) zero k e s u =
      let here : j ≡ k = omega arith in
      subst (λ i. MadeIn t t' i (suc m) (constant m false, constant m true) made) here
      (subst (λ g. MadeIn t t' j (suc m) g made) (constants m) (node m (omega arith)))
  carried (suc m) (suc w) k e s u =
      made_idle t.columns t.count t.level.now t.low.now t.high.now t'.level.now t'.low.now t'.high.now k m (variable_fn m w) t'.count made
      (carried m w (k + 1) (omega arith) (omega arith) (omega arith))

  pub variable_made : j < t.columns → MadeIn t t' 0 t.columns (variable_fn t.columns j) made
  variable_made u = carried t.columns j 0 (omega arith) (omega arith) u
