-- The memos beside the generator: they stay right through every call of a step and through what is written, and a list that
-- is done may be kept and stands once it is.
use mathlib.Core.Path.{◌≡◌, refl, ap, ◌∙◌, subst, subst⁻¹}
use mathlib.Core.List.{List, [], ◌∷◌}
use Prim.Native.Nat.{ℕ, suc, ◌+◌, ◌-◌, ◌^◌, ◌<◌, ◌≤◌}
use native.Mathlib.Nat.{pow-le-pow_right, one-le-pow}
use native.Mathlib.Omega.{arith}
use lib.ListN.{length, set, replicate}
use lib.Seq.{sets}
use Rattle.std.specs.Prelude.{Option, Some}
use Rattle.rule.specs.Nodes.{Tree}
use Rattle.rule.specs.Rule.{list_of}
use Rattle.graph.specs.Table.{table_of, fn_of}
use Rattle.graph.specs.Sound.{Sound}
use Rattle.graph.specs.Run.{Run}
use Rattle.graph.proofs.Runs.{run_none}
use Rattle.memo.specs.Memo.{Holds, HoldsAfter}
use Rattle.memo.proofs.Holding.{holds-none, holds-done}
use Rattle.steps.specs.Step.{KeptDone, KeptOf, SixRoots, RestDone, RestOf}
use Rattle.steps.specs.declared.step.Kept.{Kept}
use Rattle.listmemo.specs.Copy.{numbers_under}
use Rattle.listmemo.specs.Past.{no_entry, Stands, Keeps}
use Rattle.listmemo.specs.declared.past.Entry.{Entry}
use Rattle.listmemo.proofs.Writing.{list-bound}
use Rattle.listmemo.proofs.Staying.{keeps_stay, keeps_none}
use Rattle.listmemo.proofs.Copying.{stands_listed}
use Rattle.list.specs.Generating.{Listable, Expandable, ListedDone, Memos, MemosAfter}

-- Memos without entries, before the first list.
pub memos_none : {n : ℕ} {c : ℕ} {v : List ℕ} {l : List ℕ} {h : List ℕ} {room : List ℕ} {at : ℕ} → Memos n c v l h room at (replicate {A = ℕ} 1024 0) (replicate 512 no_entry)
memos_none = record { operations = holds-none; lists = keeps_none }

-- So a memo of lists without entries beside any right memo of operations.
pub memos_begin : {n : ℕ} {c : ℕ} {v : List ℕ} {l : List ℕ} {h : List ℕ} {room : List ℕ} {at : ℕ} {memo : List ℕ} {past : List Entry} → Holds n c v l h memo → past ≡ replicate 512 no_entry → Memos n c v l h room at memo past
memos_begin {n} {c} {v} {l} {h} {room} {at} o e =
    let w : Memos n c v l h room at (replicate {A = ℕ} 1024 0) (replicate 512 no_entry) = memos_none in
    record { operations = o; lists = subst⁻¹ (Keeps n c v l h room at) e w.lists }

module _ {n : ℕ} {c : ℕ} {v : List ℕ} {l : List ℕ} {h : List ℕ} {room : List ℕ} {at : ℕ} {memo : List ℕ} {past : List Entry} (s : Sound n c v l h) (q : Memos n c v l h room at memo past) where
  -- After operations that leave their own memo right. The table's columns are what they were.
  pub memos_on : {n₁ : ℕ} {v₁ : List ℕ} {l₁ : List ℕ} {h₁ : List ℕ} {c₁ : ℕ} {memo₁ : List ℕ} (ts : List Tree) → n₁ ≡ n → Run n c v l h v₁ l₁ h₁ ts c₁ → Holds n₁ c₁ v₁ l₁ h₁ memo₁ → Memos n₁ c₁ v₁ l₁ h₁ room at memo₁ past
  memos_on {v₁ = v₁} {l₁} {h₁} {c₁} ts e r o =
      record { operations = o; lists = subst⁻¹ (λ j. Keeps j c₁ v₁ l₁ h₁ room at past) e (keeps_stay ts [] s r refl (omega arith) q.lists) }

  -- After numbers are written from the place on.
  pub memos_written : {room₁ : List ℕ} {at₁ : ℕ} (xs : List ℕ) → room₁ ≡ sets room at xs → at₁ ≡ at + length xs → Memos n c v l h room₁ at₁ memo past
  memos_written xs e d = record { operations = q.operations; lists = keeps_stay [] xs s (run_none s) e d q.lists }

  pub memos_put : {room₁ : List ℕ} (x : ℕ) → room₁ ≡ set room at x → Memos n c v l h room₁ (at + 1) memo past
  memos_put x e = memos_written (x ∷ []) e refl

-- After a call that is done, of one list or of the three of a step.
pub list_memos : {A : Type 0} (n : ℕ) (c : ℕ) (v : List ℕ) (l : List ℕ) (h : List ℕ) (room : List ℕ) (at : ℕ) (memo : List ℕ) (past : List Entry) {r : Option A} {x : A} → r ≡ Some x → MemosAfter n c v l h room at memo past r → Memos n c v l h room at memo past
unfolding MemosAfter
list_memos n c v l h room at memo past e q = subst (MemosAfter n c v l h room at memo past) e q

-- After the halves, P0 and P1, and after what A and B leave.
module _ {n : ℕ} {c : ℕ} {v : List ℕ} {l : List ℕ} {h : List ℕ} {n₁ : ℕ} {v₁ : List ℕ} {l₁ : List ℕ} {h₁ : List ℕ} {room : List ℕ} {at : ℕ} {memo : List ℕ} {memo₁ : List ℕ} {past : List Entry} {c₁ : ℕ} (same : n₁ ≡ n) where
  pub kept_memos : {chosen : ℕ} {w : ℕ} {k : ℕ} {a : ℕ} {b : ℕ} {x : Kept} (r : Option Kept) → Expandable n c v l h at chosen w k a b → r ≡ Some x →
      ((m : ℕ) → k + suc m ≡ n → KeptOf n c v l h v₁ l₁ h₁ k m (fn_of (table_of v l h) k (suc m) a) (fn_of (table_of v l h) k (suc m) b) c₁ r) → HoldsAfter n₁ c₁ v₁ l₁ h₁ memo₁ r →
      Memos n c v l h room at memo past → Memos n₁ c₁ v₁ l₁ h₁ room at memo₁ past
  unfolding KeptOf
  kept_memos {k = k} {a = a} {b = b} {x = x} r p e t o q =
      let m : ℕ = n - (k + 1) in
      let d : KeptDone n c v l h v₁ l₁ h₁ k m (fn_of (table_of v l h) k (suc m) a) (fn_of (table_of v l h) k (suc m) b) x.l0 x.l1 x.u0 x.u1 x.p0 x.p1 c₁ = subst (KeptOf n c v l h v₁ l₁ h₁ k m (fn_of (table_of v l h) k (suc m) a) (fn_of (table_of v l h) k (suc m) b) c₁) e (t m (omega (arith, p.column))) in
      memos_on p.listable.roots.sound q _ same d.run (holds-done n₁ c₁ v₁ l₁ h₁ _ e o)

  pub rest_memos : {k : ℕ} {l0 : ℕ} {g0 : ℕ} {l1 : ℕ} {g1 : ℕ} {u0 : ℕ} {u1 : ℕ} {x : ℕ} {y : ℕ} (r : Option (ℕ × ℕ)) → SixRoots n c v l h k l0 g0 l1 g1 u0 u1 → r ≡ Some (x, y) →
      ((m : ℕ) → k + m ≡ n → RestOf n c v l h v₁ l₁ h₁ k m (fn_of (table_of v l h) k m l0) (fn_of (table_of v l h) k m g0) (fn_of (table_of v l h) k m l1) (fn_of (table_of v l h) k m g1) (fn_of (table_of v l h) k m u0) (fn_of (table_of v l h) k m u1) c₁ r) → HoldsAfter n₁ c₁ v₁ l₁ h₁ memo₁ r →
      Memos n c v l h room at memo past → Memos n₁ c₁ v₁ l₁ h₁ room at memo₁ past
  unfolding RestOf
  rest_memos {k} {x = x} {y = y} r p e t o q =
      let m : ℕ = n - k in
      let d : RestDone n c v l h v₁ l₁ h₁ k m _ _ _ _ _ _ x y c₁ = subst (RestOf n c v l h v₁ l₁ h₁ k m _ _ _ _ _ _ c₁) e (t m (omega (arith, p.column))) in
      memos_on p.sound q _ same d.run (holds-done n₁ c₁ v₁ l₁ h₁ _ e o)

-- A list that is done: the place moves on, the list may be kept, and what is kept of it stands.
module _ {n : ℕ} {c : ℕ} {v : List ℕ} {l : List ℕ} {h : List ℕ} {v₁ : List ℕ} {l₁ : List ℕ} {h₁ : List ℕ} {room : List ℕ} {room₁ : List ℕ} {at : ℕ} {chosen : ℕ} {w : ℕ} {k : ℕ} {a : ℕ} {b : ℕ} {g : ℕ} {c₁ : ℕ} {at₁ : ℕ} (p : Listable n c v l h at chosen w k a b)
    (done : (m : ℕ) → k + m ≡ n → ListedDone n c v l h v₁ l₁ h₁ room room₁ at chosen w k m (fn_of (table_of v l h) k m a) (fn_of (table_of v l h) k m b) g c₁ at₁) where
  pub place-on : at ≤ at₁
  place-on = omega (arith, (done (n - k) (omega (arith, p.roots.column))).place)

  -- A list has at most 3 to the 16 cubes.
  few-cubes : (m : ℕ) → k + m ≡ n → length (list_of m (fn_of (table_of v l h) k m a) (fn_of (table_of v l h) k m b)) ≤ 43046721
  few-cubes m s =
      let u : 3 ^ m ≤ 3 ^ 16 = pow-le-pow_right {n = 3} (omega arith) {i = m} {j = 16} (omega (arith, p.roots.sound.columns)) in
      omega (arith, list-bound m (fn_of (table_of v l h) k m a) (fn_of (table_of v l h) k m b))

  -- Its column fits a key, and its place and its length fit 32 bits.
  pub may_be_kept : (k < 64) × (at < 4294967296) × (at₁ - at < 4294967296)
  may_be_kept =
      let s : k + (n - k) ≡ n = omega (arith, p.roots.column) in (
        omega (arith, p.roots.column, p.roots.sound.columns),
        omega (arith, p.place, one-le-pow (n - k) 3 (omega arith)),
        omega (arith, (done (n - k) s).place, few-cubes (n - k) s),
      )

  pub list_stands : Stands n c₁ v₁ l₁ h₁ room₁ at₁ a b k g at (at₁ - at) chosen
  list_stands =
      stands_listed room p.roots.sound p.roots.column p.roots.first p.roots.second
      (λ m s. (done m s).run)
      (λ m s. (done m s).cover)
      (λ m s. omega (arith, (done m s).place))
      (λ m s. (done m s).written ∙ ap (λ y. sets room at (numbers_under chosen y (list_of m (fn_of (table_of v l h) k m a) (fn_of (table_of v l h) k m b)))) p.weight)
      (omega (arith, place-on))

  -- Once it is kept.
  pub memos_kept : {n₁ : ℕ} {memo : List ℕ} {past : List Entry} {past₁ : List Entry} → n₁ ≡ n → Memos n₁ c₁ v₁ l₁ h₁ room₁ at₁ memo past →
      ((n : ℕ) (c : ℕ) (v : List ℕ) (l : List ℕ) (h : List ℕ) (room : List ℕ) (at' : ℕ) → Keeps n c v l h room at' past → Stands n c v l h room at' a b k g at (at₁ - at) chosen → Keeps n c v l h room at' past₁) →
      Memos n₁ c₁ v₁ l₁ h₁ room₁ at₁ memo past₁
  memos_kept {n₁} e q f =
      record {
        operations = q.operations;
        lists = f n₁ c₁ v₁ l₁ h₁ room₁ at₁ q.lists (subst⁻¹ (λ j. Stands j c₁ v₁ l₁ h₁ room₁ at₁ a b k g at (at₁ - at) chosen) e list_stands);
      }
