-- The operations of a step on a lent table, one law for each call and way out of `keep`, `rest` and `join`.
use mathlib.Core.Path.{◌≡◌, refl, sym, ap, ◌∙◌, subst, subst⁻¹, subst₃}
use mathlib.Core.Bool.{Bool, true, false}
use mathlib.Core.List.{List, ◌++◌, append_assoc}
use Prim.Native.Nat.{ℕ, suc, ◌+◌, ◌-◌, ◌≤◌}
use native.Mathlib.Omega.{arith}
use lib.ListN.{length}
use Rattle.std.specs.Prelude.{Option, Some, None}
use Rattle.rule.specs.Func.{Fn, half, joined, both, either, less, same}
use Rattle.rule.specs.Nodes.{Tree, tree, own, nodes, add_all}
use Rattle.rule.specs.Rule.{p0_of, p1_of, list_of}
use Rattle.rule.proofs.Sets.{adding_again-adds_nothing, add_all_append}
use Rattle.graph.specs.Table.{table_of, half_of, fn_of, refers, functions, node_fn}
use Rattle.graph.specs.Sound.{Sound}
use Rattle.graph.specs.Operation.{op_of}
use Rattle.graph.specs.Built.{Halves, MadeOf}
use Rattle.graph.specs.Lent.{table, HalvesIn, MadeIn}
use Rattle.graph.specs.declared.operation.Op.{Op}
use Rattle.graph.specs.declared.operation.Op.TheVariants.{And, Or, Difference}
use Rattle.graph.specs.declared.build.TableMut.{TableMut}
use Rattle.graph.specs.declared.table.HalvesOf.{HalvesOf}
use Rattle.graph.proofs.Numbers.{half-refers}
use Rattle.graph.proofs.Agree.{agree_through}
use Rattle.graph.proofs.Applying.{Halved}
use Rattle.graph.proofs.Runs.{run_then, run_short, names_stay, short-more}
use Rattle.graph.specs.Run.{Run, Short, Names}
use Rattle.memo.proofs.Holding.{NodeIn}
use Rattle.steps.specs.Run.{FourRoots, TwoDone, TwoOf, result_of}
use Rattle.steps.specs.Step.{named_kept, KeptOf, SixRoots, named_left, RestOf, ThreeRoots}
use Rattle.steps.specs.declared.run.Task.{Task}
use Rattle.steps.specs.declared.step.Kept.{Kept}
use Rattle.steps.specs.declared.step.Covers.{Covers}
use Rattle.steps.proofs.Runs.{TwoPromise}

-- The operation of two named numbers is that of what they name.
pub result-names : {v : List ℕ} {l : List ℕ} {h : List ℕ} {c : ℕ} {k : ℕ} {m : ℕ} {f : Fn m} {g : Fn m} {a : ℕ} {b : ℕ} (op : Op) → Names v l h c k m f a → Names v l h c k m g b → result_of op v l h k m a b ≡ joined (op_of op) m f g
unfolding result_of
result-names {m = m} op p q = λ i. joined (op_of op) m (p.means i) (q.means i)

-- A number in use names its function.
pub names_itself : {v : List ℕ} {l : List ℕ} {h : List ℕ} {c : ℕ} {k : ℕ} (m : ℕ) {x : ℕ} → refers (table_of v l h) c k x ≡ true → Names v l h c k m (fn_of (table_of v l h) k m x) x
names_itself m r = record { number = r; means = refl }

-- The half of a root names the half of its function.
pub half-names : {n : ℕ} {c : ℕ} {v : List ℕ} {l : List ℕ} {h : List ℕ} (k : ℕ) (m : ℕ) (d : Bool) (x : ℕ) (y : ℕ) → Sound n c v l h → refers (table_of v l h) c k x ≡ true → y ≡ half_of (table_of v l h) k d x → Names v l h c (k + 1) m (half d (fn_of (table_of v l h) k (suc m) x)) y
unfolding fn_of half
half-names {n} {c} {v} {l} {h} k m d x y s r e =
    record {
      number = subst⁻¹ (λ z. refers (table_of v l h) c (k + 1) z ≡ true) e (half-refers n (table_of v l h) c k d x s.good r);
      means = ap (fn_of (table_of v l h) (k + 1) m) e ∙ halved d;
    }
  where
    halved : (d : Bool) → fn_of (table_of v l h) (k + 1) m (half_of (table_of v l h) k d x) ≡ half d (fn_of (table_of v l h) k (suc m) x)
    halved false = refl
    halved true = refl

-- Two pairs of named numbers.
pub four_roots : {n : ℕ} {c : ℕ} {v : List ℕ} {l : List ℕ} {h : List ℕ} {k : ℕ} {m : ℕ} {f : Fn m} {g : Fn m} {f' : Fn m} {g' : Fn m} {a : ℕ} {b : ℕ} {d : ℕ} {e : ℕ} → Sound n c v l h → k ≤ n →
    Names v l h c k m f a → Names v l h c k m g b → Names v l h c k m f' d → Names v l h c k m g' e → FourRoots n c v l h k a b d e
four_roots s u p q p' q' =
    record {
      first = record { sound = s; column = u; first = p.number; second = q.number };
      second = record { sound = s; column = u; first = p'.number; second = q'.number };
    }

-- What two operations give over columns of a number n, with other functions that are their results'.
two-of : (t : TableMut) (k : ℕ) (p : Task) (q : Task) (t' : TableMut) (r : Option (ℕ × ℕ)) (n : ℕ) (m : ℕ) (f : Fn m) (g : Fn m) → t.columns ≡ n → k + m ≡ n →
    result_of p.op t.level.now t.low.now t.high.now k m p.a p.b ≡ f → result_of q.op t.level.now t.low.now t.high.now k m q.a q.b ≡ g → TwoPromise t k p q t' r →
    TwoOf n t.count t.level.now t.low.now t.high.now t'.level.now t'.low.now t'.high.now k m f g t'.count r
unfolding TwoPromise
two-of t k p q t' r n m f g u s e d w =
    subst₃ (λ n f g. TwoOf n t.count t.level.now t.low.now t.high.now t'.level.now t'.low.now t'.high.now k m f g t'.count r) u e d (w m (s ∙ sym u))

-- The operations of a step.
abbrev differ : ℕ → ℕ → Task
differ a b = record { op = Difference; a = a; b = b }

abbrev unite : ℕ → ℕ → Task
unite a b = record { op = Or; a = a; b = b }

abbrev meet : ℕ → ℕ → Task
meet a b = record { op = And; a = a; b = b }

-- keep.
abbrev pub KeptPromise : TableMut → ℕ → ℕ → ℕ → TableMut → Option Kept → Type 0
KeptPromise t k a b t' r =
    (m : ℕ) → k + suc m ≡ t.columns →
    KeptOf t.columns t.count t.level.now t.low.now t.high.now t'.level.now t'.low.now t'.high.now k m (fn_of (table t) k (suc m) a) (fn_of (table t) k (suc m) b) t'.count r

module _ {t : TableMut} {k : ℕ} {a : ℕ} {b : ℕ} {x : HalvesOf} {y : HalvesOf} (p : Halved Difference t k a b x y) where
  L : (m : ℕ) → Fn (suc m)
  L m = fn_of (table t) k (suc m) a

  U : (m : ℕ) → Fn (suc m)
  U m = fn_of (table t) k (suc m) b

  lower_0 : (m : ℕ) → Names t.level.now t.low.now t.high.now t.count (k + 1) m (L m).0 x.low
  unfolding half L
  lower_0 m = half-names k m false a x.low p.roots.sound p.roots.first p.first.0

  lower_1 : (m : ℕ) → Names t.level.now t.low.now t.high.now t.count (k + 1) m (L m).1 x.high
  unfolding half L
  lower_1 m = half-names k m true a x.high p.roots.sound p.roots.first p.first.1

  upper_0 : (m : ℕ) → Names t.level.now t.low.now t.high.now t.count (k + 1) m (U m).0 y.low
  unfolding half U
  upper_0 m = half-names k m false b y.low p.roots.sound p.roots.second p.second.0

  upper_1 : (m : ℕ) → Names t.level.now t.low.now t.high.now t.count (k + 1) m (U m).1 y.high
  unfolding half U
  upper_1 m = half-names k m true b y.high p.roots.sound p.roots.second p.second.1

  pub keep-roots : FourRoots t.columns t.count t.level.now t.low.now t.high.now (k + 1) x.low y.high x.high y.low
  keep-roots = four_roots {m = 0} p.roots.sound (omega (arith, p.more)) (lower_0 0) (upper_1 0) (lower_1 0) (upper_0 0)

  -- The two differences, with P0 and P1 for their results.
  with_p : (t' : TableMut) (r : Option (ℕ × ℕ)) → TwoPromise t (k + 1) (differ x.low y.high) (differ x.high y.low) t' r →
      (m : ℕ) → k + suc m ≡ t.columns →
      TwoOf t.columns t.count t.level.now t.low.now t.high.now t'.level.now t'.low.now t'.high.now (k + 1) m (p0_of m (list_of m) (L m) (U m)) (p1_of m (list_of m) (L m) (U m)) t'.count r
  unfolding p0_of p1_of less op_of
  with_p t' r q m s =
      two-of t (k + 1) _ _ t' r t.columns m _ _ refl (omega arith) (result-names Difference (lower_0 m) (upper_1 m)) (result-names Difference (lower_1 m) (upper_0 m)) q

  pub keep_full : (t' : TableMut) → TwoPromise t (k + 1) (differ x.low y.high) (differ x.high y.low) t' None → KeptPromise t k a b t' None
  unfolding KeptOf TwoOf named_kept L U
  keep_full t' q m s = with_p t' None q m s

  pub keep-done : (t' : TableMut) (r : ℕ × ℕ) → TwoPromise t (k + 1) (differ x.low y.high) (differ x.high y.low) t' (Some r) →
      KeptPromise t k a b t' (Some (record { l0 = x.low; l1 = x.high; u0 = y.low; u1 = y.high; p0 = r.0; p1 = r.1 }))
  unfolding KeptOf TwoOf named_kept L U
  keep-done t' r q m s =
      let w = with_p t' (Some r) q m s in
      record {
        run = w.run;
        lower0 = names_stay p.roots.sound w.run (lower_0 m);
        lower1 = names_stay p.roots.sound w.run (lower_1 m);
        upper0 = names_stay p.roots.sound w.run (upper_0 m);
        upper1 = names_stay p.roots.sound w.run (upper_1 m);
        kept0 = w.first;
        kept1 = w.second;
      }

-- rest.
abbrev pub RestPromise : TableMut → ℕ → Kept → ℕ → ℕ → TableMut → Option (ℕ × ℕ) → Type 0
RestPromise t k p g0 g1 t' r =
    (m : ℕ) → k + m ≡ t.columns →
    RestOf t.columns t.count t.level.now t.low.now t.high.now t'.level.now t'.low.now t'.high.now k m
    (fn_of (table t) k m p.l0) (fn_of (table t) k m g0) (fn_of (table t) k m p.l1) (fn_of (table t) k m g1) (fn_of (table t) k m p.u0) (fn_of (table t) k m p.u1) t'.count r

module _ (t : TableMut) (k : ℕ) (s : Kept) (g0 : ℕ) (g1 : ℕ) (p : SixRoots t.columns t.count t.level.now t.low.now t.high.now k s.l0 g0 s.l1 g1 s.u0 s.u1) where
  fn : (m : ℕ) → ℕ → Fn m
  fn m x = fn_of (table t) k m x

  left0 : (m : ℕ) → Fn m
  left0 m = less m (fn m s.l0) (fn m g0)

  left1 : (m : ℕ) → Fn m
  left1 m = less m (fn m s.l1) (fn m g1)

  lefts : (t₁ : TableMut) (r : Option (ℕ × ℕ)) → TwoPromise t k (differ s.l0 g0) (differ s.l1 g1) t₁ r → (m : ℕ) → k + m ≡ t.columns →
      TwoOf t.columns t.count t.level.now t.low.now t.high.now t₁.level.now t₁.low.now t₁.high.now k m (left0 m) (left1 m) t₁.count r
  unfolding fn left0 left1 less op_of
  lefts t₁ r q m i =
      two-of t k _ _ t₁ r t.columns m _ _ refl i (result-names Difference (names_itself m p.lower0) (names_itself m p.cover0))
      (result-names Difference (names_itself m p.lower1) (names_itself m p.cover1)) q

  pub rest_full : (t₁ : TableMut) → TwoPromise t k (differ s.l0 g0) (differ s.l1 g1) t₁ None → RestPromise t k s g0 g1 t₁ None
  unfolding RestOf named_left TwoOf fn left0 left1
  rest_full t₁ q m i = short-more _ (nodes m (both m (fn m s.u0) (fn m s.u1))) (short-more _ (nodes m (either m (left0 m) (left1 m))) (lefts t₁ None q m i))

  module _ (t₁ : TableMut) (e₁ : t₁.columns ≡ t.columns) (r : ℕ × ℕ)
      (q : TwoPromise t k (differ s.l0 g0) (differ s.l1 g1) t₁ (Some r)) where
    left-done : (m : ℕ) → k + m ≡ t.columns → TwoDone t.columns t.count t.level.now t.low.now t.high.now t₁.level.now t₁.low.now t₁.high.now k m (left0 m) (left1 m) r.0 r.1 t₁.count
    unfolding TwoOf
    left-done m i = lefts t₁ (Some r) q m i

    top-names : (m : ℕ) → k + m ≡ t.columns → (u : ℕ) → refers (table t) t.count k u ≡ true → Names t₁.level.now t₁.low.now t₁.high.now t₁.count k m (fn m u) u
    unfolding fn
    top-names m i u w = names_stay p.sound (left-done m i).run (names_itself m w)

    pub top-roots : FourRoots t₁.columns t₁.count t₁.level.now t₁.low.now t₁.high.now k r.0 r.1 s.u0 s.u1
    top-roots =
        let m = t.columns - k in
        let i : k + (t.columns - k) ≡ t.columns = omega (arith, p.column) in
        let w = left-done m i in
        subst⁻¹ (λ n. FourRoots n t₁.count t₁.level.now t₁.low.now t₁.high.now k r.0 r.1 s.u0 s.u1) e₁
        (four_roots w.run.sound p.column w.first w.second (top-names m i s.u0 p.upper0) (top-names m i s.u1 p.upper1))

    tops : (t₂ : TableMut) (r' : Option (ℕ × ℕ)) → TwoPromise t₁ k (unite r.0 r.1) (meet s.u0 s.u1) t₂ r' → (m : ℕ) → k + m ≡ t.columns →
        TwoOf t.columns t₁.count t₁.level.now t₁.low.now t₁.high.now t₂.level.now t₂.low.now t₂.high.now k m (either m (left0 m) (left1 m)) (both m (fn m s.u0) (fn m s.u1)) t₂.count r'
    unfolding either both op_of
    tops t₂ r' q' m i =
        let w = left-done m i in
        two-of t₁ k _ _ t₂ r' t.columns m _ _ e₁ i (result-names Or w.first w.second)
        (result-names And (top-names m i s.u0 p.upper0) (top-names m i s.u1 p.upper1)) q'

    pub rest-done : (t₂ : TableMut) (r' : Option (ℕ × ℕ)) → TwoPromise t₁ k (unite r.0 r.1) (meet s.u0 s.u1) t₂ r' → RestPromise t k s g0 g1 t₂ r'
    unfolding fn left0 left1 RestOf named_left TwoOf
    rest-done t₂ r' q' m i = settle r' (tops t₂ r' q' m i)
      where
        A : List Tree
        A = nodes m (left0 m) ++ nodes m (left1 m)

        B : List Tree
        B = nodes m (either m (left0 m) (left1 m))

        C : List Tree
        C = nodes m (both m (fn m s.u0) (fn m s.u1))

        settle : (r' : Option (ℕ × ℕ)) → TwoOf t.columns t₁.count t₁.level.now t₁.low.now t₁.high.now t₂.level.now t₂.low.now t₂.high.now k m (either m (left0 m) (left1 m)) (both m (fn m s.u0) (fn m s.u1)) t₂.count r' →
            RestOf t.columns t.count t.level.now t.low.now t.high.now t₂.level.now t₂.low.now t₂.high.now k m (fn m s.l0) (fn m g0) (fn m s.l1) (fn m g1) (fn m s.u0) (fn m s.u1) t₂.count r'
        settle (Some z) w =
            record {
              run = subst⁻¹ (λ ts. Run t.columns t.count t.level.now t.low.now t.high.now t₂.level.now t₂.low.now t₂.high.now ts t₂.count) (append_assoc A B C) (run_then A (B ++ C) (left-done m i).run w.run);
              left = w.first;
              top = w.second;
            }
        settle None w =
            subst⁻¹ (Short t.columns t.count t.level.now t.low.now t.high.now t₂.level.now t₂.low.now t₂.high.now) (append_assoc A B C) (run_short A (B ++ C) (left-done m i).run w)

-- join.
abbrev pub JoinPromise : TableMut → ℕ → Covers → TableMut → Option ℕ → Type 0
JoinPromise t k g t' r =
    (m : ℕ) → k + suc m ≡ t.columns →
    MadeIn t t' k (suc m)
    (either m (fn_of (table t) (k + 1) m g.g0) (fn_of (table t) (k + 1) m g.gs), either m (fn_of (table t) (k + 1) m g.g1) (fn_of (table t) (k + 1) m g.gs)) r

module _ (t : TableMut) (k : ℕ) (g : Covers) (p : ThreeRoots t.columns t.count t.level.now t.low.now t.high.now k g.g0 g.g1 g.gs) where
  F0 : (m : ℕ) → Fn m
  F0 m = either m (fn_of (table t) (k + 1) m g.g0) (fn_of (table t) (k + 1) m g.gs)

  F1 : (m : ℕ) → Fn m
  F1 m = either m (fn_of (table t) (k + 1) m g.g1) (fn_of (table t) (k + 1) m g.gs)

  halves : (t₁ : TableMut) (r : Option (ℕ × ℕ)) → TwoPromise t (k + 1) (unite g.g0 g.gs) (unite g.g1 g.gs) t₁ r → (m : ℕ) → k + suc m ≡ t.columns →
      TwoOf t.columns t.count t.level.now t.low.now t.high.now t₁.level.now t₁.low.now t₁.high.now (k + 1) m (F0 m) (F1 m) t₁.count r
  unfolding F0 F1 either op_of
  halves t₁ r q m i =
      two-of t (k + 1) _ _ t₁ r t.columns m _ _ refl (omega arith) (result-names Or (names_itself m p.cover0) (names_itself m p.cover_c))
      (result-names Or (names_itself m p.cover1) (names_itself m p.cover_c)) q

  -- The nodes of the pair: those of both halves, and the pair itself.
  pub join_full : (t₁ : TableMut) → TwoPromise t (k + 1) (unite g.g0 g.gs) (unite g.g1 g.gs) t₁ None → JoinPromise t k g t₁ None
  unfolding MadeOf TwoOf F0 F1 nodes
  join_full t₁ q m i =
      let more = short-more _ (own (same m (F0 m) (F1 m)) (tree (suc m) (F0 m, F1 m))) (halves t₁ None q m i) in
      record { sized = more.sized; length-kept = more.length-kept; kept = more.kept; lacks = more.lacks }

  module _ (t₁ : TableMut) (e₁ : t₁.columns ≡ t.columns) (r : ℕ × ℕ)
      (q : TwoPromise t (k + 1) (unite g.g0 g.gs) (unite g.g1 g.gs) t₁ (Some r)) where
    halves-done : (m : ℕ) → k + suc m ≡ t.columns → TwoDone t.columns t.count t.level.now t.low.now t.high.now t₁.level.now t₁.low.now t₁.high.now (k + 1) m (F0 m) (F1 m) r.0 r.1 t₁.count
    unfolding TwoOf
    halves-done m i = halves t₁ (Some r) q m i

    pub join_halves : HalvesIn t₁ k r.0 r.1
    join_halves =
        let w = halves-done (t.columns - (k + 1)) (omega (arith, p.column)) in
        subst⁻¹ (λ n. Halves n t₁.count t₁.level.now t₁.low.now t₁.high.now k r.0 r.1) e₁
        (record { sound = w.run.sound; column = p.column; first = w.first.number; second = w.second.number })

    node_is : (m : ℕ) → k + suc m ≡ t.columns → node_fn (table t₁) k m r.0 r.1 ≡ (F0 m, F1 m)
    unfolding node_fn
    node_is m i = let w = halves-done m i in λ j. (w.first.means j, w.second.means j)

    node_adds : (m : ℕ) → k + suc m ≡ t.columns →
        add_all (functions t.columns (table t₁) t₁.count) (nodes (suc m) (node_fn (table t₁) k m r.0 r.1)) ≡ add_all (functions t.columns (table t) t.count) (nodes (suc m) (F0 m, F1 m))
    unfolding nodes
    node_adds m i =
        ap (λ F. add_all (functions t.columns (table t₁) t₁.count) (nodes (suc m) F)) (node_is m i) ∙
        ap (λ S. add_all S (nodes (suc m) (F0 m, F1 m))) (halves-done m i).run.adds ∙
        add_all_append (add_all S (a ++ b)) (a ++ b) o ∙
        ap (λ R. add_all R o) (adding_again-adds_nothing S (a ++ b)) ∙
        sym (add_all_append S (a ++ b) o)
      where
        S : List Tree
        S = functions t.columns (table t) t.count

        a : List Tree
        a = nodes m (F0 m)

        b : List Tree
        b = nodes m (F1 m)

        o : List Tree
        o = own (same m (F0 m) (F1 m)) (tree (suc m) (F0 m, F1 m))

    pub join_done : (t₂ : TableMut) (r' : Option ℕ) → NodeIn t₁ t₂ k r.0 r.1 r' → JoinPromise t k g t₂ r'
    unfolding MadeOf F0 F1
    join_done t₂ r' q' m i =
        settle r'
        (subst (λ n. MadeOf n t₁.count t₁.level.now t₁.low.now t₁.high.now t₂.level.now t₂.low.now t₂.high.now k (suc m) (node_fn (table t₁) k m r.0 r.1) t₂.count r') e₁
        (q' m (i ∙ sym e₁)))
      where
        settle : (r' : Option ℕ) → MadeOf t.columns t₁.count t₁.level.now t₁.low.now t₁.high.now t₂.level.now t₂.low.now t₂.high.now k (suc m) (node_fn (table t₁) k m r.0 r.1) t₂.count r' →
            MadeIn t t₂ k (suc m) (F0 m, F1 m) r'
        settle (Some z) w =
            let d = (halves-done m i).run in
            record {
              sound = w.sound;
              length-kept = w.length-kept ∙ d.length-kept;
              more = omega (arith, w.more, d.more);
              kept = agree_through t.count t₁.count d.more d.kept w.kept;
              number = w.number;
              means = w.means ∙ node_is m i;
              adds = w.adds ∙ node_adds m i;
            }
        settle None w =
            let d = (halves-done m i).run in
            record {
              sized = record { count = omega (arith, w.sized.count, d.more); low = w.sized.low; high = w.sized.high; room = w.sized.room };
              length-kept = w.length-kept ∙ d.length-kept;
              kept = agree_through t.count t₁.count d.more d.kept w.kept;
              lacks = omega (arith, w.lacks, d.length-kept, ap length (node_adds m i));
            }
