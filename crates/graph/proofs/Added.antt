-- One record for each function: no two records in use have the same one, and building adds one for each missing node of
-- the result and no other, so that the count after it is the need.
use mathlib.Core.Path.{◌≡◌, refl, sym, ap, ◌∙◌}
use mathlib.Core.Bool.{true, false}
use mathlib.Core.List.{List, ◌++◌}
use mathlib.Core.Logic.{◌⊎◌, ⊎_elim}
use Prim.Native.Nat.{ℕ, suc, ◌+◌, ◌-◌, ◌<◌, ◌≤◌}
use native.Mathlib.Omega.{arith}
use lib.ListN.{length}
use Rattle.rule.specs.Func.{Fn}
use Rattle.rule.specs.Nodes.{nodes, has, add_all}
use Rattle.rule.proofs.Bools.{or_true, clash, must_be_false}
use Rattle.rule.proofs.Trees.{tree_values}
use Rattle.rule.proofs.Sets.{has-add_all}
use Rattle.rule.proofs.Growth.{fresh, add_all_fresh, add_all-length}
use Rattle.graph.specs.Table.{Table, table_of, fn_of, good_table, record_tree, functions}
use Rattle.graph.specs.Built.{Built}
use Rattle.graph.proofs.Tests.{Good, good-at, record_refers}
use Rattle.graph.proofs.Numbers.{equal_numbers}
use Rattle.graph.proofs.Agree.{agree-functions}
use Rattle.graph.proofs.Records.{functions-length, has_record, of_record, record-tree, told-level}

-- Two records of equal functions: they have one level, and their numbers have one function over the columns from it on.
pub record Alike (n : ℕ) (T : Table) (i : ℕ) (T' : Table) (j : ℕ) : Type 0 where
  pub more : ℕ
  pub columns : T.level i + suc more ≡ n
  pub level : T'.level j ≡ T.level i
  pub means : fn_of T (T.level i) (suc more) (i + 2) ≡ fn_of T' (T.level i) (suc more) (j + 2)

pub alike : (n : ℕ) (T : Table) (i : ℕ) (T' : Table) (j : ℕ) → Good n T i → Good n T' j → record_tree n T i ≡ record_tree n T' j → Alike n T i T' j
alike n T i T' j g g' e =
    let k = T.level i in
    let m = n - k - 1 in
    let s : k + suc m ≡ n = omega (arith, g.level) in
    let here = record-tree n T k m i s refl in
    let lv : T'.level j ≡ k = told-level n T' m k j (fn_of T k (suc m) (i + 2)) s g'.level (sym here ∙ e) in
    record {
      more = m;
      columns = s;
      level = lv;
      means = tree_values (suc m) (fn_of T k (suc m) (i + 2)) (fn_of T' k (suc m) (j + 2)) (sym here ∙ e ∙ record-tree n T' k m j s lv);
    }

-- No two records in use have the same function.
pub one_for_each_function : (n : ℕ) (T : Table) (c : ℕ) (i : ℕ) (j : ℕ) → good_table n T c ≡ true → i < c → j < c → record_tree n T i ≡ record_tree n T j → i ≡ j
one_for_each_function n T c i j g u w e =
    let a = alike n T i T j (good-at n T c g i u) (good-at n T c g j w) e in
    let number : i + 2 ≡ j + 2 =
    equal_numbers n T c g (suc a.more) (T.level i) (i + 2) (j + 2) a.columns
    (record_refers T c (T.level i) i u (omega arith)) (record_refers T c (T.level i) j w (omega (arith, a.level))) a.means in
    omega arith

-- The count after building is the need: one record for each function known before and each missing node.
module _ {n : ℕ} {c : ℕ} {v : List ℕ} {l : List ℕ} {h : List ℕ} {k : ℕ} {m : ℕ} {f : Fn m} {v' : List ℕ} {l' : List ℕ} {h' : List ℕ} {x : ℕ} {c' : ℕ} (b : Built n c v l h v' l' h' k m f x c') where
  pub count-is-need : c' ≡ length (add_all (functions n (table_of v l h) c) (nodes m f))
  count-is-need = sym (functions-length n (table_of v' l' h') c') ∙ ap length b.adds

  -- The functions of the records added are the missing nodes, each once and in their order.
  pub added_are_missing : functions n (table_of v' l' h') c' ≡ functions n (table_of v l h) c ++ fresh (functions n (table_of v l h) c) (nodes m f)
  added_are_missing = b.adds ∙ add_all_fresh (functions n (table_of v l h) c) (nodes m f)

  pub added_count : c' - c ≡ length (fresh (functions n (table_of v l h) c) (nodes m f))
  added_count =
      omega (
        arith,
        count-is-need,
        add_all-length (functions n (table_of v l h) c) (nodes m f),
        functions-length n (table_of v l h) c,
      )

  -- So a record added is for a node that no record before had.
  pub added_was_missing : good_table n (table_of v l h) c ≡ true → (j : ℕ) → c ≤ j → j < c' →
      (has (nodes m f) (record_tree n (table_of v' l' h') j) ≡ true) × (has (functions n (table_of v l h) c) (record_tree n (table_of v' l' h') j) ≡ false)
  added_was_missing g j w u = (⊎_elim (λ e. clash e absent) (λ e. e) among, absent)
    where
      T' : Table
      T' = table_of v' l' h'

      before : has (functions n (table_of v l h) c) (record_tree n T' j) ≡ true → ⊥
      before e =
          let r = of_record n T' c (record_tree n T' j) (ap (λ S. has S (record_tree n T' j)) (agree-functions n (table_of v l h) T' c b.kept g) ∙ e) in
          omega (arith, one_for_each_function n T' c' j r.place b.sound.good u (omega (arith, r.used, b.more)) r.is, r.used)

      absent : has (functions n (table_of v l h) c) (record_tree n T' j) ≡ false
      absent = must_be_false (has (functions n (table_of v l h) c) (record_tree n T' j)) before

      among : (has (functions n (table_of v l h) c) (record_tree n T' j) ≡ true) ⊎ (has (nodes m f) (record_tree n T' j) ≡ true)
      among =
          or_true (has (functions n (table_of v l h) c) (record_tree n T' j)) (has (nodes m f) (record_tree n T' j))
          (sym (has-add_all (functions n (table_of v l h) c) (nodes m f) (record_tree n T' j)) ∙
          ap (λ S. has S (record_tree n T' j)) (sym b.adds) ∙
          has_record n T' c' j u)
