-- A lent table: what is read of it is what stands in its slices.
use mathlib.Core.Path.{◌≡◌, sym, ◌∙◌, subst₃}
use mathlib.Core.Bool.{true, false}
use Prim.Native.Nat.{ℕ}
use Rattle.std.specs.Prelude.{Result}
use Rattle.rule.specs.declared.refusal.Refusal.{Refusal}
use Rattle.rule.specs.Refusal.{first_broken, passed, some_number}
use Rattle.graph.specs.Table.{table_of, half_of, number_at}
use Rattle.graph.specs.Sound.{Held}
use Rattle.graph.specs.Lent.{read, table, table_tests, HeldIn, SharesIn, SameSlices, Grown}
use Rattle.graph.specs.Entry.{table_conditions}
use Rattle.graph.specs.declared.table.TableRef.{TableRef}
use Rattle.graph.specs.declared.table.HalvesOf.{HalvesOf}
use Rattle.graph.specs.declared.build.TableMut.{TableMut}

module _ (t : TableMut) (s : TableRef) (q : SharesIn t s) where
  pub read_table : read s ≡ table t
  read_table = λ i. table_of (q.level i) (q.low i) (q.high i)

  pub read_number : (k l h : ℕ) → some_number (number_at (read s) s.count k l h) ≡ some_number (number_at (table t) t.count k l h)
  read_number k l h = λ i. some_number (number_at (read_table i) (q.count i) k l h)

  -- What the test of the table that is read answers, it answers of the lent one.
  pub read_tested : {r : Result Unit Refusal} → r ≡ passed (first_broken (table_tests s)) → r ≡ passed (first_broken (table_conditions t.columns t.count t.level.now t.low.now t.high.now))
  read_tested e = e ∙ (λ i. passed (first_broken (table_conditions (q.columns i) (q.count i) (q.level i) (q.low i) (q.high i))))

  pub read_held : (x : ℕ) → Held x t.level.now t.low.now t.high.now → HeldIn s x
  read_held x h = subst₃ (Held x) (sym q.level) (sym q.low) (sym q.high) h

  pub read_halves : (k : ℕ) (x : ℕ) {f : HalvesOf} → (f.low ≡ half_of (read s) k false x) × (f.high ≡ half_of (read s) k true x) →
      (f.low ≡ half_of (table t) k false x) × (f.high ≡ half_of (table t) k true x)
  read_halves k x d = (d.0 ∙ (λ i. half_of (read_table i) k false x), d.1 ∙ (λ i. half_of (read_table i) k true x))

-- A table that was built in has the same slices.
pub grown_slices : {t t' : TableMut} → Grown t t' → SameSlices t t'
grown_slices g =
    record {
      columns = g.columns;
      level = g.level;
      low = g.low;
      high = g.high;
      level-long = g.level-long;
      low-long = g.low-long;
      high-long = g.high-long;
    }
