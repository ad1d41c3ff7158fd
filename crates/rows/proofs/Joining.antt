-- A cube, then the set with it: what each call asks, and each way out. The memo holds after the cube, which only adds records.
use mathlib.Core.Path.{◌≡◌, subst, subst⁻¹}
use mathlib.Core.List.{List}
use Prim.Native.Nat.{ℕ, ◌+◌, ◌/◌, ◌%◌}
use native.Mathlib.Omega.{arith}
use lib.Dec.{lit<}
use Rattle.std.specs.Prelude.{Option, Some, None}
use Rattle.rule.specs.Func.{Fn, joined, either}
use Rattle.rule.specs.Nodes.{nodes}
use Rattle.rule.specs.Cube.{cube_fn}
use Rattle.rule.specs.Number.{signs}
use Rattle.graph.specs.Table.{fn_of}
use Rattle.graph.specs.Sound.{Rooted, RootedTwice}
use Rattle.graph.specs.Operation.{op_of}
use Rattle.graph.specs.Built.{Built, MadeOf}
use Rattle.graph.specs.Lent.{table, RootsIn, MadeIn}
use Rattle.graph.specs.declared.build.TableMut.{TableMut}
use Rattle.graph.specs.declared.operation.Op.TheVariants.{Or}
use Rattle.graph.proofs.Tests.{constant-refers}
use Rattle.graph.proofs.Runs.{built-run, built-names, lacking_short, short-more, run_then, run_short, stays, stays_fn}
use Rattle.memo.specs.Memo.{Holds}
use Rattle.memo.proofs.Holding.{built-holds}
use Rattle.rows.specs.Naming.{SoundFrom, JoinedOf}
use Rattle.rows.proofs.Cubes.{CubePromise}

module _ (t : TableMut) (set : ℕ) (cube : ℕ) (p : Rooted t.columns t.count t.level.now t.low.now t.high.now 0 set) where
  -- The cube's function and the set's, and what joining them promises.
  abbrev f : Fn t.columns
  f = cube_fn t.columns (signs t.columns cube)

  abbrev g : Fn t.columns
  g = fn_of (table t) 0 t.columns set

  abbrev Joins : TableMut → Option ℕ → Type 0
  Joins t' r = JoinedOf t.columns t.count t.level.now t.low.now t.high.now t'.level.now t'.low.now t'.high.now g f t'.count r

  -- The cube starts from the constant 1.
  pub cube-root : SoundFrom t 0
  cube-root = record { sound = p.sound; column = p.column; number = constant-refers (table t) t.count 0 1 (lit< tt) }

  module _ (t₁ : TableMut) where
    cube_made : (r : Option ℕ) → CubePromise t t₁ 0 (cube % 65536) (cube / 65536) r → MadeIn t t₁ 0 t.columns f r
    unfolding CubePromise signs
    cube_made r q = q t.columns (omega arith)

    -- The cube does not fit.
    pub cube_full : CubePromise t t₁ 0 (cube % 65536) (cube / 65536) None → Joins t₁ None
    unfolding JoinedOf MadeOf
    cube_full q = short-more (nodes t.columns f) (nodes t.columns (either t.columns g f)) (lacking_short (cube_made None q))

    -- After the cube.
    module _ (e : t₁.columns ≡ t.columns) (x : ℕ) (q : CubePromise t t₁ 0 (cube % 65536) (cube / 65536) (Some x)) where
      cube-built : Built t.columns t.count t.level.now t.low.now t.high.now t₁.level.now t₁.low.now t₁.high.now 0 t.columns f x t₁.count
      unfolding MadeOf
      cube-built = cube_made (Some x) q

      -- The set is still in use, with its function.
      pub set_roots : RootsIn t₁ 0 set x
      set_roots =
          subst⁻¹ (λ n. RootedTwice n t₁.count t₁.level.now t₁.low.now t₁.high.now 0 set x) e
          (record {
            sound = cube-built.sound;
            column = p.column;
            first = stays (nodes t.columns f) 0 set (built-run cube-built) p.number;
            second = cube-built.number;
          })

      pub cube_holds : {ms : List ℕ} → Holds t.columns t.count t.level.now t.low.now t.high.now ms → Holds t₁.columns t₁.count t₁.level.now t₁.low.now t₁.high.now ms
      cube_holds {ms} q = subst⁻¹ (λ n. Holds n t₁.count t₁.level.now t₁.low.now t₁.high.now ms) e (built-holds p.sound cube-built q)

      same-either : joined (op_of Or) t.columns (fn_of (table t₁) 0 t.columns set) (fn_of (table t₁) 0 t.columns x) ≡ either t.columns g f
      unfolding op_of either
      same-either =
          λ i. joined (op_of Or) t.columns (stays_fn (nodes t.columns f) 0 t.columns set p.sound (built-run cube-built) p.number i) (cube-built.means i)

      -- The set with the cube, or no room for it.
      both_made : (t₂ : TableMut) (r : Option ℕ) → MadeOf t.columns t₁.count t₁.level.now t₁.low.now t₁.high.now t₂.level.now t₂.low.now t₂.high.now 0 t.columns (either t.columns g f) t₂.count r → Joins t₂ r
      unfolding MadeOf JoinedOf
      both_made t₂ (Some y) b =
          record { run = run_then (nodes t.columns f) (nodes t.columns (either t.columns g f)) (built-run cube-built) (built-run b); names = built-names b }
      both_made t₂ None b = run_short (nodes t.columns f) (nodes t.columns (either t.columns g f)) (built-run cube-built) (lacking_short b)

      pub set_joined : (t₂ : TableMut) (r : Option ℕ) →
          ((m : ℕ) → 0 + m ≡ t₁.columns → MadeIn t₁ t₂ 0 m (joined (op_of Or) m (fn_of (table t₁) 0 m set) (fn_of (table t₁) 0 m x)) r) → Joins t₂ r
      set_joined t₂ r d =
          both_made t₂ r
          (subst (λ F. MadeOf t.columns t₁.count t₁.level.now t₁.low.now t₁.high.now t₂.level.now t₂.low.now t₂.high.now 0 t.columns F t₂.count r) same-either
          (subst
          (λ n. MadeOf n t₁.count t₁.level.now t₁.low.now t₁.high.now t₂.level.now t₂.low.now t₂.high.now 0 t.columns (joined (op_of Or) t.columns (fn_of (table t₁) 0 t.columns set) (fn_of (table t₁) 0 t.columns x)) t₂.count r)
          e (d t.columns (omega arith))))
