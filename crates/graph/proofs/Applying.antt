-- An operation of two numbers, one law for each call and each way out: a known number, a column on which neither number
-- depends, a half that does not fit, and the node of both halves.
use mathlib.Core.Path.{◌≡◌, sym, ◌∙◌, subst, subst⁻¹}
use mathlib.Core.Bool.{Bool, true, false}
use Prim.Native.Nat.{ℕ, zero, suc, ◌+◌, ◌-◌, ◌<◌, ◌≤◌}
use native.Mathlib.Omega.{arith}
use Rattle.std.specs.Prelude.{Option, Some, None}
use Rattle.rule.specs.Func.{Fn, joined}
use Rattle.graph.specs.Table.{half_of, fn_of, refers, node_fn}
use Rattle.graph.specs.Operation.{op_of, TerminalOf}
use Rattle.graph.specs.Sound.{RootedTwice}
use Rattle.graph.specs.Built.{Halves, Built, MadeOf}
use Rattle.graph.specs.Lent.{read, table, RootsIn, HalvesIn, MadeIn, SharesIn}
use Rattle.graph.specs.declared.operation.Op.{Op}
use Rattle.graph.specs.declared.table.TableRef.{TableRef}
use Rattle.graph.specs.declared.table.HalvesOf.{HalvesOf}
use Rattle.graph.specs.declared.build.TableMut.{TableMut}
use Rattle.graph.proofs.Tests.{refers_wider}
use Rattle.graph.proofs.Numbers.{half-refers, end_constant}
use Rattle.graph.proofs.Agree.{agree-refers, agree_fn}
use Rattle.graph.proofs.Lending.{read_halves}
use Rattle.graph.proofs.Building.{built_in_use, made_idle, lacking_low, lacking_high, lacking_node, low_stays, built_node}

-- What a call promises of the operation of two numbers over the columns from column k on.
unfoldable pub Promise : Op → TableMut → ℕ → ℕ → ℕ → TableMut → Option ℕ → Type 0
Promise op t k a b t' r = (m : ℕ) → k + m ≡ t.columns → MadeIn t t' k m (joined (op_of op) m (fn_of (table t) k m a) (fn_of (table t) k m b)) r

-- The same, by the number of columns.
over : (op : Op) (t : TableMut) (k : ℕ) (a : ℕ) (b : ℕ) (t' : TableMut) (r : Option ℕ) (n : ℕ) → t.columns ≡ n → Promise op t k a b t' r → (m : ℕ) → k + m ≡ n →
    MadeOf n t.count t.level.now t.low.now t.high.now t'.level.now t'.low.now t'.high.now k m (joined (op_of op) m (fn_of (table t) k m a) (fn_of (table t) k m b)) t'.count r
unfolding Promise
over op t k a b t' r n e p =
    subst
    (λ i.
    (m : ℕ) → k + m ≡ i →
    MadeOf i t.count t.level.now t.low.now t.high.now t'.level.now t'.low.now t'.high.now k m (joined (op_of op) m (fn_of (table t) k m a) (fn_of (table t) k m b)) t'.count r)
    e p

-- Where column k is not the last, at least one column is left.
some_left : (P : ℕ → Type 0) (k : ℕ) (n : ℕ) → k < n → ((m : ℕ) → k + suc m ≡ n → P (suc m)) → (m : ℕ) → k + m ≡ n → P m
some_left P k n u f zero e = let z : ⊥ = omega arith in absurd z
some_left P k n u f (suc m) e = f m e

-- Operands that are split at column k, where a column is left.
pub record Halved (op : Op) (t : TableMut) (k : ℕ) (a : ℕ) (b : ℕ) (f : HalvesOf) (g : HalvesOf) : Type 0 where
  pub roots : RootsIn t k a b
  pub more : k < t.columns
  pub first : (f.low ≡ half_of (table t) k false a) × (f.high ≡ half_of (table t) k true a)
  pub second : (g.low ≡ half_of (table t) k false b) × (g.high ≡ half_of (table t) k true b)

module _ (op : Op) (t : TableMut) (k : ℕ) (a : ℕ) (b : ℕ) (p : RootsIn t k a b) where
  -- A known number is the result.
  pub known_made : (x : ℕ) → TerminalOf op a b (Some x) → Promise op t k a b t (Some x)
  unfolding Promise MadeOf TerminalOf
  known_made x q =
      λ m e.
      built_in_use t.columns t.count t.level.now t.low.now t.high.now k m _ x p.sound e
      (q.number (table t) t.count k p.first p.second) (q.means (table t) k m)

  -- Operands to be split are not both constants, so a column is left.
  splits : TerminalOf op a b None → k < t.columns
  unfolding TerminalOf
  splits q = lt_of_ne p.column (λ e. q (ends a p.first e, ends b p.second e))
    where
      ends : (x : ℕ) → refers (table t) t.count k x ≡ true → k ≡ t.columns → x < 2
      ends x r e = end_constant t.columns (table t) t.count x p.sound.good (subst (λ j. refers (table t) t.count j x ≡ true) e r)

      lt_of_ne : k ≤ t.columns → (k ≡ t.columns → ⊥) → k < t.columns
      lt_of_ne u d = omega arith

  pub halved : TerminalOf op a b None → (s : TableRef) (s' : TableRef) → SharesIn t s → SharesIn t s' → {f : HalvesOf} {g : HalvesOf} →
      (f.low ≡ half_of (read s) k false a) × (f.high ≡ half_of (read s) k true a) →
      (g.low ≡ half_of (read s') k false b) × (g.high ≡ half_of (read s') k true b) → Halved op t k a b f g
  halved q s s' u u' d e =
      record { roots = p; more = splits q; first = read_halves t s u k a d; second = read_halves t s' u' k b e }

module _ {op : Op} {t : TableMut} {k : ℕ} {a : ℕ} {b : ℕ} {f : HalvesOf} {g : HalvesOf} (s : Halved op t k a b f g) where
  -- The operation of the halves for a digit, and of the numbers as the pair of both.
  halfway : (m : ℕ) → ℕ → ℕ → Fn m
  halfway m x y = joined (op_of op) m (fn_of (table t) (k + 1) m x) (fn_of (table t) (k + 1) m y)

  in_halves : (m : ℕ) → (halfway m f.low g.low, halfway m f.high g.high) ≡ joined (op_of op) (suc m) (fn_of (table t) k (suc m) a) (fn_of (table t) k (suc m) b)
  unfolding halfway joined fn_of
  in_halves m =
      λ i. (
        joined (op_of op) m (fn_of (table t) (k + 1) m (s.first.0 i)) (fn_of (table t) (k + 1) m (s.second.0 i)),
        joined (op_of op) m (fn_of (table t) (k + 1) m (s.first.1 i)) (fn_of (table t) (k + 1) m (s.second.1 i)),
      )

  -- A promise for the pair of both is one for the numbers.
  of_halves : (t' : TableMut) (r : Option ℕ) → ((m : ℕ) → k + suc m ≡ t.columns → MadeIn t t' k (suc m) (halfway m f.low g.low, halfway m f.high g.high) r) → Promise op t k a b t' r
  unfolding Promise
  of_halves t' r h =
      some_left (λ m. MadeIn t t' k m (joined (op_of op) m (fn_of (table t) k m a) (fn_of (table t) k m b)) r) k t.columns s.more
      (λ m e. subst (λ F. MadeIn t t' k (suc m) F r) (in_halves m) (h m e))

  -- The halves for a digit refer at the next column.
  next-twice : (d : Bool) (x : ℕ) (y : ℕ) → x ≡ half_of (table t) k d a → y ≡ half_of (table t) k d b → RootsIn t (k + 1) x y
  next-twice d x y e i =
      record {
        sound = s.roots.sound;
        column = omega (arith, s.more);
        first = subst⁻¹ (λ z. refers (table t) t.count (k + 1) z ≡ true) e (half-refers t.columns (table t) t.count k d a s.roots.sound.good s.roots.first);
        second = subst⁻¹ (λ z. refers (table t) t.count (k + 1) z ≡ true) i (half-refers t.columns (table t) t.count k d b s.roots.sound.good s.roots.second);
      }

  pub low_twice : RootsIn t (k + 1) f.low g.low
  low_twice = next-twice false f.low g.low s.first.0 s.second.0

  high_before : RootsIn t (k + 1) f.high g.high
  high_before = next-twice true f.high g.high s.first.1 s.second.1

  -- Neither number depends on the column: the result of the low halves is that of the numbers.
  pub idle_made : (t' : TableMut) (r : Option ℕ) → f.low ≡ f.high → g.low ≡ g.high → Promise op t (k + 1) f.low g.low t' r → Promise op t k a b t' r
  unfolding Promise halfway
  idle_made t' r d e q =
      of_halves t' r
      (λ m i.
      subst (λ g_of. MadeIn t t' k (suc m) (halfway m f.low g.low, g_of) r) (λ j. halfway m (d j) (e j))
      (made_idle t.columns t.count t.level.now t.low.now t.high.now t'.level.now t'.low.now t'.high.now k m (halfway m f.low g.low) t'.count r (q m (omega arith))))

  -- The low halves' result does not fit.
  pub low_full : (t' : TableMut) → Promise op t (k + 1) f.low g.low t' None → Promise op t k a b t' None
  unfolding Promise halfway MadeOf
  low_full t' q =
      of_halves t' None
      (λ m i.
      lacking_low t.columns t.count t.level.now t.low.now t.high.now k m (halfway m f.low g.low) (halfway m f.high g.high) (q m (omega arith)))

  -- After the low halves' result.
  module _ (t₁ : TableMut) (e₁ : t₁.columns ≡ t.columns) (x : ℕ) (q : Promise op t (k + 1) f.low g.low t₁ (Some x)) where
    built₁ : (m : ℕ) → k + suc m ≡ t.columns → Built t.columns t.count t.level.now t.low.now t.high.now t₁.level.now t₁.low.now t₁.high.now (k + 1) m (halfway m f.low g.low) x t₁.count
    unfolding Promise halfway MadeOf
    built₁ m i = q m (omega arith)

    -- What holds of the result whatever the columns left are.
    with-columns : {A : Type 0} → ((m : ℕ) → k + suc m ≡ t.columns → A) → A
    with-columns h = h (t.columns - (k + 1)) (omega (arith, s.more))

    -- The high halves refer in the table as it is now.
    pub high_twice : RootsIn t₁ (k + 1) f.high g.high
    high_twice =
        with-columns
        (λ m i.
        let b₁ = built₁ m i in
        subst⁻¹ (λ n. RootedTwice n t₁.count t₁.level.now t₁.low.now t₁.high.now (k + 1) f.high g.high) e₁
        (record {
          sound = b₁.sound;
          column = high_before.column;
          first =
              refers_wider (table t₁) t.count t₁.count (k + 1) (k + 1) f.high b₁.more (omega arith)
              (agree-refers (table t) (table t₁) t.count b₁.kept (k + 1) f.high high_before.first);
          second =
              refers_wider (table t₁) t.count t₁.count (k + 1) (k + 1) g.high b₁.more (omega arith)
              (agree-refers (table t) (table t₁) t.count b₁.kept (k + 1) g.high high_before.second);
        }))

    -- Their functions are what they were.
    same-high : (m : ℕ) → k + suc m ≡ t.columns → joined (op_of op) m (fn_of (table t₁) (k + 1) m f.high) (fn_of (table t₁) (k + 1) m g.high) ≡ halfway m f.high g.high
    unfolding halfway
    same-high m i =
        let b₁ = built₁ m i in
        λ j.
        joined (op_of op) m (agree_fn (table t) (table t₁) t.count b₁.kept t.columns s.roots.sound.good m (k + 1) f.high high_before.first j)
        (agree_fn (table t) (table t₁) t.count b₁.kept t.columns s.roots.sound.good m (k + 1) g.high high_before.second j)

    high_made : (t₂ : TableMut) (r : Option ℕ) → Promise op t₁ (k + 1) f.high g.high t₂ r → (m : ℕ) → k + suc m ≡ t.columns →
        MadeOf t.columns t₁.count t₁.level.now t₁.low.now t₁.high.now t₂.level.now t₂.low.now t₂.high.now (k + 1) m (halfway m f.high g.high) t₂.count r
    high_made t₂ r q' m i =
        subst (λ F. MadeOf t.columns t₁.count t₁.level.now t₁.low.now t₁.high.now t₂.level.now t₂.low.now t₂.high.now (k + 1) m F t₂.count r) (same-high m i)
        (over op t₁ (k + 1) f.high g.high t₂ r t.columns e₁ q' m (omega arith))

    pub high_full : (t₂ : TableMut) → Promise op t₁ (k + 1) f.high g.high t₂ None → Promise op t k a b t₂ None
    unfolding MadeOf
    high_full t₂ q' =
        of_halves t₂ None
        (λ m i.
        lacking_high t.columns t.count t.level.now t.low.now t.high.now k m (halfway m f.low g.low) (halfway m f.high g.high)
        t₁.level.now t₁.low.now t₁.high.now x t₁.count (built₁ m i) (high_made t₂ None q' m i))

    -- After the high halves' result: the node of both.
    module _ (t₂ : TableMut) (e₂ : t₂.columns ≡ t₁.columns) (y : ℕ) (q' : Promise op t₁ (k + 1) f.high g.high t₂ (Some y)) where
      built₂ : (m : ℕ) → k + suc m ≡ t.columns → Built t.columns t₁.count t₁.level.now t₁.low.now t₁.high.now t₂.level.now t₂.low.now t₂.high.now (k + 1) m (halfway m f.high g.high) y t₂.count
      unfolding MadeOf
      built₂ m i = high_made t₂ (Some y) q' m i

      pub both_halves : HalvesIn t₂ k x y
      both_halves =
          with-columns
          (λ m i.
          subst⁻¹ (λ n. Halves n t₂.count t₂.level.now t₂.low.now t₂.high.now k x y) (e₂ ∙ e₁)
          (record {
            sound = (built₂ m i).sound;
            column = s.more;
            first =
                low_stays t.columns t.count t.level.now t.low.now t.high.now k m (halfway m f.low g.low) (halfway m f.high g.high)
                t₁.level.now t₁.low.now t₁.high.now x t₁.count (built₁ m i) t₂.level.now t₂.low.now t₂.high.now y t₂.count (built₂ m i);
            second = (built₂ m i).number;
          }))

      pub node_made : (t₃ : TableMut) (r : Option ℕ) → ((m : ℕ) → k + suc m ≡ t₂.columns → MadeIn t₂ t₃ k (suc m) (node_fn (table t₂) k m x y) r) → Promise op t k a b t₃ r
      unfolding MadeOf
      node_made t₃ r q'' =
          of_halves t₃ r
          (λ m i.
          go r m i
          (subst (λ n. MadeOf n t₂.count t₂.level.now t₂.low.now t₂.high.now t₃.level.now t₃.low.now t₃.high.now k (suc m) (node_fn (table t₂) k m x y) t₃.count r) (e₂ ∙ e₁)
          (q'' m (i ∙ sym (e₂ ∙ e₁)))))
        where
          go : (r : Option ℕ) (m : ℕ) → k + suc m ≡ t.columns →
              MadeOf t.columns t₂.count t₂.level.now t₂.low.now t₂.high.now t₃.level.now t₃.low.now t₃.high.now k (suc m) (node_fn (table t₂) k m x y) t₃.count r →
              MadeIn t t₃ k (suc m) (halfway m f.low g.low, halfway m f.high g.high) r
          go (Some z) m i w =
              built_node t.columns t.count t.level.now t.low.now t.high.now k m (halfway m f.low g.low) (halfway m f.high g.high)
              t₁.level.now t₁.low.now t₁.high.now x t₁.count (built₁ m i) t₂.level.now t₂.low.now t₂.high.now y t₂.count (built₂ m i) w
          go None m i w =
              lacking_node t.columns t.count t.level.now t.low.now t.high.now k m (halfway m f.low g.low) (halfway m f.high g.high)
              t₁.level.now t₁.low.now t₁.high.now x t₁.count (built₁ m i) t₂.level.now t₂.low.now t₂.high.now y t₂.count (built₂ m i) w
