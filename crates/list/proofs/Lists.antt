-- The three lists of a step as the code calls for them: what stands after each call, and one law for what each call asks and
-- one for each way out. None of them asks anything of the memos; two more say how these stay right.
use mathlib.Core.Path.{◌≡◌, refl, ◌∙◌, subst, subst⁻¹}
use Prim.Native.Nat.{ℕ, suc, ◌+◌, ◌-◌, ◌*◌, ◌^◌, ◌≤◌}
use native.Mathlib.Omega.{arith}
use Rattle.std.specs.Prelude.{Option, Some, None}
use Rattle.rule.specs.Func.{Fn}
use Rattle.graph.specs.Table.{fn_of}
use Rattle.graph.specs.Lent.{table}
use Rattle.memo.specs.declared.build.Operations.{Operations}
use Rattle.steps.specs.Step.{KeptDone, KeptOf, LeftIn, RestOf, SixRoots}
use Rattle.steps.specs.declared.step.Kept.{Kept}
use Rattle.steps.specs.declared.step.Covers.{Covers}
use Rattle.list.specs.Generating.{ListableIn, ExpandableIn, MemosIn, ListsOf, ListedOf, next_path}
use Rattle.list.specs.declared.generator.Generator.{Generator}
use Rattle.list.specs.declared.generator.Path.{Path}
use Rattle.list.proofs.Listing.{short-kept, StateA, StateB, StateR, after_a, after_b, after-rest, after_c}
use Rattle.list.proofs.Asking.{Step, ask_a, ask_b, ask_rest, ask_c, full_a, full_b, full_rest, full_c}
use Rattle.list.proofs.Remembering.{kept_memos, rest_memos}
use Rattle.list.proofs.Calls.{with_operations, columns_of, KeepPromise, RestPromise, ListPromise, ListsPromise, StepAsked, KeepGives, RestGives, asks_at, listed_as, rest_as}

-- A generator that is asked for the lists of a step, at a path, with a lower and an upper root.
module _ (g : Generator) (p : Path) (a : ℕ) (b : ℕ) where
  -- The functions of both roots.
  abbrev lower : (m : ℕ) → Fn (suc m)
  lower m = fn_of (table g.operations.now.table.now) p.k (suc m) a

  abbrev upper : (m : ℕ) → Fn (suc m)
  upper m = fn_of (table g.operations.now.table.now) p.k (suc m) b

  -- After the halves, P0 and P1.
  pub record AfterKeep (o : Operations) (q : Kept) : Type 0 where
    pub asked : ExpandableIn g p a b
    pub columns : o.table.now.columns ≡ columns_of g
    pub state : (m : ℕ) → p.k + suc m ≡ columns_of g →
        (let t = g.operations.now.table.now in
        KeptDone t.columns t.count t.level.now t.low.now t.high.now o.table.now.level.now o.table.now.low.now o.table.now.high.now p.k m (lower m) (upper m) q.l0 q.l1 q.u0 q.u1 q.p0 q.p1 o.table.now.count)

  -- After list A.
  pub record AfterA (g₁ : Generator) (q : Kept) (g0 : ℕ) : Type 0 where
    pub asked : ExpandableIn g p a b
    pub columns : columns_of g₁ ≡ columns_of g
    pub state : (m : ℕ) → p.k + suc m ≡ columns_of g →
        (let t = g.operations.now.table.now in
        let t₁ = g₁.operations.now.table.now in
        StateA t.columns t.count t.level.now t.low.now t.high.now g.room.now g.at p.chosen p.weight p.k m (lower m) (upper m) t₁.level.now t₁.low.now t₁.high.now g₁.room.now q.l0 q.l1 q.u0 q.u1 q.p1 g0 t₁.count g₁.at)

  -- After list B.
  pub record AfterB (g₁ : Generator) (q : Kept) (g0 : ℕ) (g1 : ℕ) : Type 0 where
    pub asked : ExpandableIn g p a b
    pub columns : columns_of g₁ ≡ columns_of g
    pub state : (m : ℕ) → p.k + suc m ≡ columns_of g →
        (let t = g.operations.now.table.now in
        let t₁ = g₁.operations.now.table.now in
        StateB t.columns t.count t.level.now t.low.now t.high.now g.room.now g.at p.chosen p.weight p.k m (lower m) (upper m) t₁.level.now t₁.low.now t₁.high.now g₁.room.now q.l0 q.l1 q.u0 q.u1 g0 g1 t₁.count g₁.at)

  -- After what A and B leave is joined.
  pub record AfterRest (g₁ : Generator) (g0 : ℕ) (g1 : ℕ) (x : ℕ) (y : ℕ) : Type 0 where
    pub asked : ExpandableIn g p a b
    pub columns : columns_of g₁ ≡ columns_of g
    pub state : (m : ℕ) → p.k + suc m ≡ columns_of g →
        (let t = g.operations.now.table.now in
        let t₁ = g₁.operations.now.table.now in
        StateR t.columns t.count t.level.now t.low.now t.high.now g.room.now g.at p.chosen p.weight p.k m (lower m) (upper m) t₁.level.now t₁.low.now t₁.high.now g₁.room.now g0 g1 x y t₁.count g₁.at)

  module _ (s : ExpandableIn g p a b) where
    step : (m : ℕ) → p.k + suc m ≡ columns_of g → Step (columns_of g) g.at p.chosen p.weight p.k m (lower m) (upper m)
    step m e =
        record {
          columns = e;
          inside = s.listable.inside (suc m) e;
          weight = s.listable.weight;
          literals = s.listable.literals;
          place = subst (λ j. g.at + 3 ^ j ≤ 2 ^ 32) (omega arith) s.listable.place;
        }

    -- What holds whatever the columns left are.
    with-columns : {A : Type 0} → ((m : ℕ) → p.k + suc m ≡ columns_of g → A) → A
    with-columns f = f (columns_of g - (p.k + 1)) (omega (arith, s.column))

  -- P0 and P1 do not fit.
  pub kept_full : (o : Operations) {r : Option Covers} → r ≡ None → KeepPromise g.operations.now p a b o None → ListsPromise g p a b (with_operations g o) r
  unfolding ListsOf KeptOf
  kept_full o e h =
      subst⁻¹ (ListsPromise g p a b (with_operations g o)) e (λ m i. record { short = short-kept m _ _ (h m i); room-kept = refl })

  pub after_keep : (o : Operations) {q : Kept} → ExpandableIn g p a b → o.table.now.columns ≡ columns_of g → KeepPromise g.operations.now p a b o (Some q) → AfterKeep o q
  unfolding KeptOf
  after_keep o s d h = record { asked = s; columns = d; state = h }

  -- The memos after them.
  pub keep_memos : {o : Operations} (q : Kept) → StepAsked g p a b → KeepGives g.operations.now p a b o (Some q) → MemosIn (with_operations g o)
  keep_memos q s h = kept_memos h.same.slices.columns (Some q) s.roots refl h.kept h.memo s.memos

-- List A.
module _ {g : Generator} {p : Path} {a : ℕ} {b : ℕ} {o : Operations} {q : Kept} (s : AfterKeep g p a b o q) {p₁ : Path} (e : p₁ ≡ next_path p (65536 * p.weight)) where
  pub a_asks : ListableIn (with_operations g o) p₁ q.p0 q.u0
  a_asks =
      with-columns g p a b s.asked
      (λ m i. asks_at (with_operations g o) s.columns e (ask_a (step g p a b s.asked m i) (s.state m i)))

  pub a_full : (g₁ : Generator) {r : Option Covers} → r ≡ None → ListPromise (with_operations g o) p₁ q.p0 q.u0 g₁ None → ListsPromise g p a b g₁ r
  unfolding ListsOf ListedOf
  a_full g₁ d h =
      subst⁻¹ (ListsPromise g p a b g₁) d
      (λ m i.
      let k = s.state m i in
      full_a (step g p a b s.asked m i) k (listed_as (with_operations g o) s.columns e g₁ m None (omega (arith, i)) k.kept0 k.upper0 h))

  pub after_list_a : (g₁ : Generator) {g0 : ℕ} → columns_of g₁ ≡ o.table.now.columns → ListPromise (with_operations g o) p₁ q.p0 q.u0 g₁ (Some g0) → AfterA g p a b g₁ q g0
  unfolding ListedOf
  after_list_a g₁ {g0} d h =
      record {
        asked = s.asked;
        columns = d ∙ s.columns;
        state = λ m i.
            let k = s.state m i in
            after_a i k (listed_as (with_operations g o) s.columns e g₁ m (Some g0) (omega (arith, i)) k.kept0 k.upper0 h);
      }

-- List B.
module _ {g : Generator} {p : Path} {a : ℕ} {b : ℕ} {g₁ : Generator} {q : Kept} {g0 : ℕ} (s : AfterA g p a b g₁ q g0) {p₁ : Path} (e : p₁ ≡ next_path p p.weight) where
  pub b_asks : ListableIn g₁ p₁ q.p1 q.u1
  b_asks =
      with-columns g p a b s.asked
      (λ m i. asks_at g₁ s.columns e (ask_b (step g p a b s.asked m i) (s.state m i)))

  pub b_full : (g₂ : Generator) {r : Option Covers} → r ≡ None → ListPromise g₁ p₁ q.p1 q.u1 g₂ None → ListsPromise g p a b g₂ r
  unfolding ListsOf ListedOf
  b_full g₂ d h =
      subst⁻¹ (ListsPromise g p a b g₂) d
      (λ m i.
      let k = s.state m i in
      full_b (step g p a b s.asked m i) k (listed_as g₁ s.columns e g₂ m None (omega (arith, i)) k.kept1 k.upper1 h))

  pub after_list_b : (g₂ : Generator) {g1 : ℕ} → columns_of g₂ ≡ columns_of g₁ → ListPromise g₁ p₁ q.p1 q.u1 g₂ (Some g1) → AfterB g p a b g₂ q g0 g1
  unfolding ListedOf
  after_list_b g₂ {g1} d h =
      record {
        asked = s.asked;
        columns = d ∙ s.columns;
        state = λ m i.
            let k = s.state m i in
            after_b i k (listed_as g₁ s.columns e g₂ m (Some g1) (omega (arith, i)) k.kept1 k.upper1 h);
      }

-- What A and B leave.
module _ {g : Generator} {p : Path} {a : ℕ} {b : ℕ} {g₁ : Generator} {q : Kept} {g0 : ℕ} {g1 : ℕ} (s : AfterB g p a b g₁ q g0 g1) where
  pub rest_asks : LeftIn g₁.operations.now (p.k + 1) q g0 g1
  rest_asks =
      let t = g₁.operations.now.table.now in
      with-columns g p a b s.asked
      (λ m i.
      subst⁻¹ (λ n. SixRoots n t.count t.level.now t.low.now t.high.now (p.k + 1) q.l0 g0 q.l1 g1 q.u0 q.u1) s.columns
      (ask_rest (step g p a b s.asked m i) (s.state m i)))

  pub left_full : (o : Operations) {r : Option Covers} → r ≡ None → RestPromise g₁.operations.now p q g0 g1 o None → ListsPromise g p a b (with_operations g₁ o) r
  unfolding ListsOf
  left_full o d h =
      subst⁻¹ (ListsPromise g p a b (with_operations g₁ o)) d
      (λ m i.
      let k = s.state m i in
      full_rest (step g p a b s.asked m i) o.table.now.count k
      (rest_as g₁ o p q None m s.columns (omega (arith, i)) k.lower0 k.cover0 k.lower1 k.cover1 k.upper0 k.upper1 h))

  pub after_left : (o : Operations) {x : ℕ} {y : ℕ} → o.table.now.columns ≡ columns_of g₁ → RestPromise g₁.operations.now p q g0 g1 o (Some (x, y)) → AfterRest g p a b (with_operations g₁ o) g0 g1 x y
  unfolding RestOf
  after_left o {x} {y} d h =
      record {
        asked = s.asked;
        columns = d ∙ s.columns;
        state = λ m i.
            let k = s.state m i in
            after-rest k (rest_as g₁ o p q (Some (x, y)) m s.columns (omega (arith, i)) k.lower0 k.cover0 k.lower1 k.cover1 k.upper0 k.upper1 h);
      }

  -- The memos after it.
  pub left_memos : {o : Operations} (x : ℕ) (y : ℕ) → MemosIn g₁ → RestGives g₁.operations.now p q g0 g1 o (Some (x, y)) → MemosIn (with_operations g₁ o)
  left_memos x y w h = rest_memos h.same.slices.columns (Some (x, y)) rest_asks refl h.left h.memo w

-- List C.
module _ {g : Generator} {p : Path} {a : ℕ} {b : ℕ} {g₁ : Generator} {g0 : ℕ} {g1 : ℕ} {x : ℕ} {y : ℕ} (s : AfterRest g p a b g₁ g0 g1 x y) {p₁ : Path} (e : p₁ ≡ next_path p 0) where
  -- A dash adds nothing to the literals.
  under_dash : p₁ ≡ record { k = p.k + 1; weight = 2 * p.weight; chosen = p.chosen }
  under_dash = let d : p.chosen + 0 ≡ p.chosen = omega arith in e ∙ (λ i. record { k = p.k + 1; weight = 2 * p.weight; chosen = d i })

  pub c_asks : ListableIn g₁ p₁ x y
  c_asks =
      with-columns g p a b s.asked
      (λ m i. asks_at g₁ s.columns under_dash (ask_c (step g p a b s.asked m i) (s.state m i)))

  pub c_full : (g₂ : Generator) {r : Option Covers} → r ≡ None → ListPromise g₁ p₁ x y g₂ None → ListsPromise g p a b g₂ r
  unfolding ListsOf ListedOf
  c_full g₂ d h =
      subst⁻¹ (ListsPromise g p a b g₂) d
      (λ m i.
      let k = s.state m i in
      full_c (step g p a b s.asked m i) k (listed_as g₁ s.columns under_dash g₂ m None (omega (arith, i)) k.left k.top h))

  pub lists-done : (g₂ : Generator) (gs : ℕ) → ListPromise g₁ p₁ x y g₂ (Some gs) → ListsPromise g p a b g₂ (Some (record { g0 = g0; g1 = g1; gs = gs }))
  unfolding ListsOf ListedOf
  lists-done g₂ gs h m i =
      let k = s.state m i in
      after_c i k (listed_as g₁ s.columns under_dash g₂ m (Some gs) (omega (arith, i)) k.left k.top h)
