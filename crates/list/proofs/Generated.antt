-- The generator, one law for each way out: L is 0; U is 1; the three lists or their cover do not fit; and the list.
use mathlib.Core.Path.{◌≡◌, refl, sym, ap, ◌∙◌, subst⁻¹, transport}
use mathlib.Core.Bool.{true, false}
use mathlib.Core.List.{List, [], ◌∷◌, ◌++◌}
use Prim.Native.Nat.{ℕ, zero, suc, ◌+◌, ◌-◌, ◌*◌, ◌^◌, ◌<◌, ◌≤◌}
use native.Mathlib.Nat.{mul-zero, one-le-pow}
use native.Mathlib.Omega.{arith}
use lib.ListN.{length, set}
use lib.Seq.{sets, length-sets}
use Rattle.std.specs.Prelude.{Option, Some, None}
use Rattle.rule.specs.Func.{Fn, either, always}
use Rattle.rule.specs.Cube.{Cube, covered, dashes}
use Rattle.rule.specs.Nodes.{Tree, nodes, named, named3}
use Rattle.rule.specs.Rule.{g_of, list_of, result}
use Rattle.rule.proofs.Bools.{must_be_false, clash}
use Rattle.rule.proofs.Number.{number-dashes}
use Rattle.rule.proofs.Operations.{always-constant, constant-always}
use Rattle.rule.proofs.Steps.{list_step1, list_step2, list_step3}
use Rattle.rule.proofs.Cover.{no_step-left}
use Rattle.rule.proofs.CoverSteps.{cover-none, cover_all, cover-step}
use Rattle.rule.proofs.Named.{named_step1, named_step2, named_step3}
use Rattle.graph.specs.Table.{fn_of}
use Rattle.graph.specs.Lent.{table}
use Rattle.graph.specs.Built.{MadeOf}
use Rattle.graph.specs.Run.{Run, Short, Names}
use Rattle.graph.proofs.Tests.{constant-refers}
use Rattle.graph.proofs.Numbers.{fn_zero, fn_one, equal_numbers}
use Rattle.graph.proofs.Runs.{run_none, run_then, run_short, short-more, built-run, built-names, lacking_short}
use Rattle.memo.specs.Memo.{HoldsAfter, HoldsAfterIn}
use Rattle.memo.specs.declared.build.Operations.{Operations}
use Rattle.steps.specs.Step.{named_kept, ThreeRoots, CoversIn, joined_covers}
use Rattle.steps.specs.declared.step.Covers.{Covers}
use Rattle.listmemo.specs.Copy.{numbers_under}
use Rattle.listmemo.specs.Past.{Stands, Keeps}
use Rattle.listmemo.specs.declared.past.Entry.{Entry}
use Rattle.list.specs.Generating.{named_c, named_rest, named_b, named_a, ListableIn, ExpandableIn, ListsDone, ListsOf, ListedDone, ListedOf, Memos, MemosIn, PutIn}
use Rattle.list.specs.declared.generator.Generator.{Generator}
use Rattle.list.specs.declared.generator.Path.{Path}
use Rattle.list.proofs.Remembering.{memos_on, memos_put, place-on, may_be_kept, memos_kept}
use Rattle.list.proofs.Calls.{with_operations, columns_of, JoinPromise, ListPromise, ListsPromise, ListsGive, done_memos, same_listed, same_memos}

-- A list that is known, with what it names and covers: its promise over that list is one over the rule's.
pub known_list : {n : ℕ} {c : ℕ} {v : List ℕ} {l : List ℕ} {h : List ℕ} {v' : List ℕ} {l' : List ℕ} {h' : List ℕ} (room : List ℕ) (room' : List ℕ) (at : ℕ) (chosen : ℕ) (w : ℕ) (k : ℕ) (m : ℕ) (L : Fn m) (U : Fn m) (cs : List Cube) (ts : List Tree) (g : ℕ) (c' : ℕ) (at' : ℕ) → list_of m L U ≡ cs → named m L U ≡ ts →
    Run n c v l h v' l' h' ts c' → Names v' l' h' c' k m (covered m cs) g → room' ≡ sets room at (numbers_under chosen w cs) → at' ≡ at + length cs → ListedDone n c v l h v' l' h' room room' at chosen w k m L U g c' at'
known_list {n} {c} {v} {l} {h} {v'} {l'} {h'} room room' at chosen w k m L U cs ts g c' at' el en r q x y =
    record {
      run = subst⁻¹ (λ us. Run n c v l h v' l' h' us c') en r;
      cover = subst⁻¹ (λ ds. Names v' l' h' c' k m (covered m ds) g) el q;
      written = x ∙ ap (λ ds. sets room at (numbers_under chosen w ds)) (sym el);
      place = y ∙ ap (λ ds. at + length ds) (sym el);
    }

-- A generator that is asked for a list, at a path, with a lower and an upper root. Nothing is asked of its memos, but where a law
-- is of them.
module _ (g : Generator) (p : Path) {a : ℕ} {b : ℕ} (q : ListableIn g p a b) where
  -- The functions of both roots.
  abbrev lower : (m : ℕ) → Fn m
  lower m = fn_of (table g.operations.now.table.now) p.k m a

  abbrev upper : (m : ℕ) → Fn m
  upper m = fn_of (table g.operations.now.table.now) p.k m b

  -- L is 0.
  lower_zero : a ≡ 0 → (m : ℕ) → always false m (lower m) ≡ true
  lower_zero e m = ap (λ x. always false m (fn_of (table g.operations.now.table.now) p.k m x)) e ∙ ap (always false m) (fn_zero (table g.operations.now.table.now) p.k m) ∙ constant-always false m

  pub none-listed : a ≡ 0 → ListPromise g p a b g (Some 0)
  unfolding ListedOf numbers_under
  none-listed e m s =
      let t = g.operations.now.table.now in
      known_list g.room.now g.room.now g.at p.chosen p.weight p.k m _ _ [] [] 0 t.count g.at (list_step1 m _ _ (lower_zero e m)) (named_step1 m _ _ (lower_zero e m)) (run_none q.roots.sound)
      (record { number = constant-refers (table t) t.count p.k 0 (omega arith); means = fn_zero (table t) p.k m ∙ sym (cover-none m) })
      refl
      (omega arith)

  -- L is not 0, U is 1.
  lower_not_zero : (a ≡ 0 → ⊥) → (m : ℕ) → p.k + m ≡ columns_of g → always false m (lower m) ≡ false
  lower_not_zero d m s =
      let t = g.operations.now.table.now in
      must_be_false (always false m (lower m))
      (λ e.
      d
      (equal_numbers t.columns (table t) t.count q.roots.sound.good m p.k a 0 s q.roots.first (constant-refers (table t) t.count p.k 0 (omega arith))
      (always-constant false m (lower m) e ∙ sym (fn_zero (table t) p.k m))))

  upper_one : b ≡ 1 → (m : ℕ) → always true m (upper m) ≡ true
  upper_one e m = ap (λ x. always true m (fn_of (table g.operations.now.table.now) p.k m x)) e ∙ ap (always true m) (fn_one (table g.operations.now.table.now) p.k m) ∙ constant-always true m

  -- The place leaves room to count one cube.
  pub put_asks : g.at < 2 ^ 32
  put_asks = omega (arith, q.place, one-le-pow (columns_of g - p.k) 3 (omega arith))

  module _ {g' : Generator} (d : PutIn g p.chosen g') where
    pub one_listed : (a ≡ 0 → ⊥) → b ≡ 1 → ListPromise g p a b g' (Some 1)
    unfolding ListedOf numbers_under
    one_listed z e =
        let t = g.operations.now.table.now in
        same_listed g g' d.operations p a b (Some 1) d.place
        (λ m s.
        known_list g.room.now g'.room.now g.at p.chosen p.weight p.k m _ _ (dashes m ∷ []) [] 1 t.count (g.at + 1) (list_step2 m _ _ (lower_not_zero z m s) (upper_one e m)) (named_step2 m _ _ (lower_not_zero z m s) (upper_one e m)) (run_none q.roots.sound)
        (record { number = constant-refers (table t) t.count p.k 1 (omega arith); means = fn_one (table t) p.k m ∙ sym (cover_all m) })
        (d.room ∙ ap (set g.room.now g.at) (omega (arith, ap (λ x. p.weight * x) (number-dashes m), mul-zero p.weight)))
        refl)

    pub one_memos : MemosIn g → MemosIn g'
    one_memos w = same_memos g g' d.operations d.past d.place (memos_put q.roots.sound w _ d.room)

  -- Otherwise a column is left.
  upper_not_one : (b ≡ 1 → ⊥) → (m : ℕ) → p.k + m ≡ columns_of g → always true m (upper m) ≡ false
  upper_not_one d m s =
      let t = g.operations.now.table.now in
      must_be_false (always true m (upper m))
      (λ e.
      d
      (equal_numbers t.columns (table t) t.count q.roots.sound.good m p.k b 1 s q.roots.second (constant-refers (table t) t.count p.k 1 (omega arith))
      (always-constant true m (upper m) e ∙ sym (fn_one (table t) p.k m))))

  pub expands : (a ≡ 0 → ⊥) → (b ≡ 1 → ⊥) → ExpandableIn g p a b
  expands d e = record { listable = q; column = below q.roots.column (λ s. ends (omega arith)) }
    where
      ends : p.k + 0 ≡ columns_of g → ⊥
      ends s = clash (no_step-left (lower 0) (upper 0) (q.inside 0 s) (lower_not_zero d 0 s)) (upper_not_one e 0 s)

      below : p.k ≤ columns_of g → (p.k ≡ columns_of g → ⊥) → p.k < columns_of g
      below u f = omega arith

  -- Step 3, where L is not 0 and U is not 1.
  module _ (dl : a ≡ 0 → ⊥) (du : b ≡ 1 → ⊥) where
    -- A promise for the columns of a step is one for all columns left.
    for_step : (P : ℕ → Type 0) → ((m : ℕ) → p.k + suc m ≡ columns_of g → P (suc m)) → (m : ℕ) → p.k + m ≡ columns_of g → P m
    for_step P f zero s = let u : p.k < columns_of g = (expands dl du).column in let z : ⊥ = omega arith in absurd z
    for_step P f (suc m) s = f m s

    list-is : (m : ℕ) → p.k + suc m ≡ columns_of g → list_of (suc m) (lower (suc m)) (upper (suc m)) ≡ result m (list_of m) (lower (suc m)) (upper (suc m))
    list-is m s = list_step3 m _ _ (lower_not_zero dl (suc m) s) (upper_not_one du (suc m) s)

    named-is : (m : ℕ) → p.k + suc m ≡ columns_of g → named (suc m) (lower (suc m)) (upper (suc m)) ≡ named_c m (lower (suc m)) (upper (suc m)) ++ nodes (suc m) (g_of m (list_of m) (lower (suc m)) (upper (suc m)))
    unfolding named3 named_c named_rest named_b named_a named_kept
    named-is m s = named_step3 m _ _ (lower_not_zero dl (suc m) s) (upper_not_one du (suc m) s)

    -- What does not fit in the step does not fit.
    short-listed : (g' : Generator) {r : Option ℕ} → r ≡ None → ((m : ℕ) → p.k + suc m ≡ columns_of g → length g'.room.now ≡ length g.room.now) →
        ((m : ℕ) → p.k + suc m ≡ columns_of g →
        (let t = g.operations.now.table.now in
        let t' = g'.operations.now.table.now in
        Short t.columns t.count t.level.now t.low.now t.high.now t'.level.now t'.low.now t'.high.now (named_c m (lower (suc m)) (upper (suc m)) ++ nodes (suc m) (g_of m (list_of m) (lower (suc m)) (upper (suc m)))))) →
        ListPromise g p a b g' r
    unfolding ListedOf
    short-listed g' e u h =
        let t = g.operations.now.table.now in
        let t' = g'.operations.now.table.now in
        subst⁻¹ (ListPromise g p a b g') e
        (for_step _
        (λ m s. record { short = subst⁻¹ (Short t.columns t.count t.level.now t.low.now t.high.now t'.level.now t'.low.now t'.high.now) (named-is m s) (h m s); room-kept = u m s }))

    pub three_full : (g₁ : Generator) {r : Option ℕ} → r ≡ None → ListsPromise g p a b g₁ None → ListPromise g p a b g₁ r
    unfolding ListsOf
    three_full g₁ e h = short-listed g₁ e (λ m s. (h m s).room-kept) (λ m s. short-more _ _ (h m s).short)

    -- After the three lists.
    module _ (g₁ : Generator) (s : Covers) (columns : columns_of g₁ ≡ columns_of g) (h : ListsPromise g p a b g₁ (Some s)) where
      three : (m : ℕ) → p.k + suc m ≡ columns_of g →
          (let t = g.operations.now.table.now in
          let t₁ = g₁.operations.now.table.now in
          ListsDone t.columns t.count t.level.now t.low.now t.high.now t₁.level.now t₁.low.now t₁.high.now g.room.now g₁.room.now g.at p.chosen p.weight p.k m (lower (suc m)) (upper (suc m)) s.g0 s.g1 s.gs t₁.count g₁.at)
      unfolding ListsOf
      three m i = h m i

      pub join_asks : CoversIn g₁.operations.now p.k s
      join_asks =
          let t₁ = g₁.operations.now.table.now in
          let u = (expands dl du).column in
          let d = three (columns_of g - (p.k + 1)) (omega (arith, u)) in
          subst⁻¹ (λ n. ThreeRoots n t₁.count t₁.level.now t₁.low.now t₁.high.now p.k s.g0 s.g1 s.gs) columns
          (record { sound = d.run.sound; column = u; cover0 = d.cover0.number; cover1 = d.cover1.number; cover_c = d.cover_c.number })

      -- The cover that is made is that of the step's result.
      cover-is : (m : ℕ) → p.k + suc m ≡ columns_of g → joined_covers g₁.operations.now p.k m s ≡ covered (suc m) (result m (list_of m) (lower (suc m)) (upper (suc m)))
      cover-is m i =
          let d = three m i in
          (λ j. (either m (d.cover0.means j) (d.cover_c.means j), either m (d.cover1.means j) (d.cover_c.means j))) ∙
          sym (cover-step m (list_of m) _ _)

      -- What is made is the cover of the step, over the columns that the step counts.
      made-is : (o : Operations) (r : Option ℕ) → JoinPromise g₁.operations.now p s o r → (m : ℕ) → p.k + suc m ≡ columns_of g →
          (let t = g.operations.now.table.now in
          let t₁ = g₁.operations.now.table.now in
          MadeOf t.columns t₁.count t₁.level.now t₁.low.now t₁.high.now o.table.now.level.now o.table.now.low.now o.table.now.high.now p.k (suc m) (g_of m (list_of m) (lower (suc m)) (upper (suc m))) o.table.now.count r)
      unfolding g_of
      made-is o r k m i =
          let t₁ = g₁.operations.now.table.now in
          transport (λ j. MadeOf (columns j) t₁.count t₁.level.now t₁.low.now t₁.high.now o.table.now.level.now o.table.now.low.now o.table.now.high.now p.k (suc m) (cover-is m i j) o.table.now.count r)
          (k m (i ∙ sym columns))

      pub cover_full : (o : Operations) {r : Option ℕ} → r ≡ None → JoinPromise g₁.operations.now p s o None → ListPromise g p a b (with_operations g₁ o) r
      unfolding MadeOf
      cover_full o e k =
          short-listed (with_operations g₁ o) e
          (λ m i. ap length (three m i).written ∙ length-sets g.room.now g.at (numbers_under p.chosen p.weight (result m (list_of m) (lower (suc m)) (upper (suc m)))))
          (λ m i. run_short _ _ (three m i).run (lacking_short (made-is o None k m i)))

      -- After the cover.
      module _ (o : Operations) (x : ℕ) (k : JoinPromise g₁.operations.now p s o (Some x)) where
        listed : (m : ℕ) → p.k + m ≡ columns_of g →
            (let t = g.operations.now.table.now in
            ListedDone t.columns t.count t.level.now t.low.now t.high.now o.table.now.level.now o.table.now.low.now o.table.now.high.now g.room.now g₁.room.now g.at p.chosen p.weight p.k m (lower m) (upper m) x o.table.now.count g₁.at)
        unfolding MadeOf g_of
        listed =
            for_step _
            (λ m i.
            let d = three m i in
            let f = made-is o (Some x) k m i in
            known_list g.room.now g₁.room.now g.at p.chosen p.weight p.k (suc m) _ _ _ _ x o.table.now.count g₁.at (list-is m i) (named-is m i) (run_then _ _ d.run (built-run f)) (built-names f) d.written d.place)

        pub list-listed : ListPromise g p a b (with_operations g₁ o) (Some x)
        unfolding ListedOf
        list-listed = listed

        -- The place moves on.
        pub list_place : g.at ≤ g₁.at
        list_place = place-on q listed

        -- The list may be kept: its column fits a key, and its place and its length fit 32 bits.
        pub keep_asks : (p.k < 64) × (g.at < 4294967296) × (g₁.at - g.at < 4294967296)
        keep_asks = may_be_kept q listed

        -- The memos after the cover, and once the list is kept.
        pub cover_memos : MemosIn g₁ → o.table.now.columns ≡ columns_of g₁ → HoldsAfterIn o (Some x) → MemosIn (with_operations g₁ o)
        unfolding MadeOf HoldsAfter
        cover_memos w e d =
            let u = (expands dl du).column in
            let m : ℕ = columns_of g - (p.k + 1) in
            let i : p.k + suc m ≡ columns_of g = omega (arith, u) in
            memos_on join_asks.sound w _ e (built-run (k m (i ∙ sym columns))) d

        pub list-memos : {past : List Entry} → MemosIn g₁ → o.table.now.columns ≡ columns_of g₁ → HoldsAfterIn o (Some x) →
            ((n : ℕ) (c : ℕ) (v : List ℕ) (l : List ℕ) (h : List ℕ) (room : List ℕ) (at : ℕ) → Keeps n c v l h room at g₁.past.entries → Stands n c v l h room at a b p.k x g.at (g₁.at - g.at) p.chosen → Keeps n c v l h room at past) →
            (let t = o.table.now in
            Memos t.columns t.count t.level.now t.low.now t.high.now g₁.room.now g₁.at o.memo.entries past)
        list-memos w e d f = memos_kept q listed (e ∙ columns) (cover_memos w e d) f

    -- The memos after the three lists.
    module _ {g₁ : Generator} (s : Covers) (h : ListsGive g p a b g₁ (Some s)) where
      pub three_memos : MemosIn g₁
      three_memos = done_memos g₁ s h.memos
