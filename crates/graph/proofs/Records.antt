-- The functions of the records: every number in use has its nodes among them, a node that the look-up misses is not
-- among them, and a record put at the end adds just its own function.
use mathlib.Core.Path.{◌≡◌, refl, sym, ap, ◌∙◌, subst⁻¹}
use mathlib.Core.Bool.{Bool, true, false, ◌||◌}
use mathlib.Core.List.{List, [], ◌∷◌, ◌++◌}
use mathlib.Core.Logic.{◌⊎◌, inl, inr, ⊎_elim}
use Prim.Native.Nat.{ℕ, zero, suc, ◌+◌, ◌-◌, ◌<◌}
use native.Mathlib.Nat.{not-suc-le-zero}
use native.Mathlib.Omega.{arith}
use lib.Dec.{eqb}
use lib.ListN.{length, length-append}
use borrow.Author.Tests.{eqb-true, eqb-false}
use Rattle.rule.specs.Func.{Fn, same}
use Rattle.rule.specs.Nodes.{Tree, tree, own, nodes, has, same_tree}
use Rattle.rule.proofs.Bools.{and_intro, or_left, or_right, or_true, clash, which, must_be_false}
use Rattle.rule.proofs.Trees.{same_trees_equal, tree-same_as_itself, same_as_itself, tree_values, tree-columns}
use Rattle.rule.proofs.Sets.{AllIn, has_last, all_in_none, all_in_one, all_in_append}
use Rattle.graph.specs.Table.{Table, half_of, fn_of, refers, number_at, good_record, good_table, record_tree, functions, node_fn, Agree}
use Rattle.graph.proofs.Tests.{IsRecord, refers_wider, record_refers, good-at, good-record, record_is, number-missing, half-low, half_high}
use Rattle.graph.proofs.Numbers.{Idle, AtLevel, idle_or_at, half-refers, equal_numbers}
use Rattle.graph.proofs.Agree.{agree-refers, agree_fn, agree-number, agree-good, agree-functions}

-- One function for each record.
pub functions-length : (n : ℕ) (T : Table) (c : ℕ) → length (functions n T c) ≡ c
unfolding functions
functions-length n T zero = refl
functions-length n T (suc i) = omega (arith, length-append (functions n T i) (record_tree n T i ∷ []), functions-length n T i)

-- The function of a record in use is among them, and each of them is that of a record in use.
pub has_record : (n : ℕ) (T : Table) (c : ℕ) (i : ℕ) → i < c → has (functions n T c) (record_tree n T i) ≡ true
unfolding functions
has_record n T zero i h = absurd (not-suc-le-zero h)
has_record n T (suc j) i h =
    has_last (functions n T j) (record_tree n T j) (record_tree n T i) ∙ go (which (eqb i j)) (has_record n T j i)
  where
    Goal : Type 0
    Goal = (has (functions n T j) (record_tree n T i) || same_tree (record_tree n T j) (record_tree n T i)) ≡ true

    go : (eqb i j ≡ true) ⊎ (eqb i j ≡ false) → (i < j → has (functions n T j) (record_tree n T i) ≡ true) → Goal
    go (inl e) ih =
        or_right (has (functions n T j) (record_tree n T i)) (same_tree (record_tree n T j) (record_tree n T i))
        (ap (λ k. same_tree (record_tree n T j) (record_tree n T k)) (eqb-true i j e) ∙ tree-same_as_itself (record_tree n T j))
    go (inr e) ih =
        let other = eqb-false i j e in
        or_left (has (functions n T j) (record_tree n T i)) (same_tree (record_tree n T j) (record_tree n T i)) (ih (omega arith))

pub record OfRecord (n : ℕ) (T : Table) (c : ℕ) (t : Tree) : Type 0 where
  pub place : ℕ
  pub used : place < c
  pub is : t ≡ record_tree n T place

pub of_record : (n : ℕ) (T : Table) (c : ℕ) (t : Tree) → has (functions n T c) t ≡ true → OfRecord n T c t
unfolding functions has
of_record n T zero t e = clash e refl
of_record n T (suc i) t e =
    ⊎_elim
    (λ h. let r = of_record n T i t h in record { place = r.place; used = omega (arith, r.used); is = r.is })
    (λ h. record { place = i; used = omega arith; is = sym (same_trees_equal (record_tree n T i) t h) })
    (or_true (has (functions n T i) t) (same_tree (record_tree n T i) t) (sym (has_last (functions n T i) (record_tree n T i) t) ∙ e))

-- The function of a record of column k, where m more columns follow.
pub record-tree : (n : ℕ) (T : Table) (k : ℕ) (m : ℕ) (j : ℕ) → k + suc m ≡ n → T.level j ≡ k → record_tree n T j ≡ tree (suc m) (fn_of T k (suc m) (j + 2))
unfolding record_tree
record-tree n T k m j s e =
    ap (λ v. tree (n - v) (fn_of T v (n - v) (j + 2))) e ∙ ap (λ w. tree w (fn_of T k w (j + 2))) (omega arith)

-- What has to be shown of a function that may be no node of its own.
all_in_own : (S : List Tree) (b : Bool) (t : Tree) → (b ≡ false → has S t ≡ true) → AllIn S (own b t)
unfolding own
all_in_own S true t h = all_in_none S
all_in_own S false t h = all_in_one S t (h refl)

-- A number whose halves differ is a record of the column, and its function is among them.
own_node : (n : ℕ) (T : Table) (c : ℕ) (m : ℕ) (k : ℕ) (x : ℕ) → k + suc m ≡ n → refers T c k x ≡ true →
    same m (fn_of T (k + 1) m (half_of T k false x)) (fn_of T (k + 1) m (half_of T k true x)) ≡ false → has (functions n T c) (tree (suc m) (fn_of T k (suc m) x)) ≡ true
own_node n T c m k x s r e = ⊎_elim idle at_level (idle_or_at T c k x r)
  where
    idle : Idle T c k x → has (functions n T c) (tree (suc m) (fn_of T k (suc m) x)) ≡ true
    idle i =
        clash
        (ap (λ y. same m (fn_of T (k + 1) m (half_of T k false x)) (fn_of T (k + 1) m y)) (i.half true ∙ sym (i.half false)) ∙ same_as_itself m (fn_of T (k + 1) m (half_of T k false x)))
        e

    at_level : AtLevel T c k x → has (functions n T c) (tree (suc m) (fn_of T k (suc m) x)) ≡ true
    at_level a =
        ap (has (functions n T c)) (ap (λ y. tree (suc m) (fn_of T k (suc m) y)) a.number ∙ sym (record-tree n T k m a.place s a.level)) ∙
        has_record n T c a.place a.used

-- The nodes of a number in use are among the functions of the records.
pub nodes_in_use : (n : ℕ) (T : Table) (c : ℕ) → good_table n T c ≡ true → (m : ℕ) (k : ℕ) (x : ℕ) → k + m ≡ n → refers T c k x ≡ true → AllIn (functions n T c) (nodes m (fn_of T k m x))
unfolding nodes fn_of
nodes_in_use n T c g zero k x s r = all_in_none (functions n T c)
nodes_in_use n T c g (suc m) k x s r =
    all_in_append (nodes m (fn_of T (k + 1) m (half_of T k false x)) ++ nodes m (fn_of T (k + 1) m (half_of T k true x)))
    (own (same m (fn_of T (k + 1) m (half_of T k false x)) (fn_of T (k + 1) m (half_of T k true x))) (tree (suc m) (fn_of T k (suc m) x)))
    (all_in_append (nodes m (fn_of T (k + 1) m (half_of T k false x))) (nodes m (fn_of T (k + 1) m (half_of T k true x)))
    (nodes_in_use n T c g m (k + 1) (half_of T k false x) (omega arith) (half-refers n T c k false x g r))
    (nodes_in_use n T c g m (k + 1) (half_of T k true x) (omega arith) (half-refers n T c k true x g r)))
    (all_in_own (functions n T c) (same m (fn_of T (k + 1) m (half_of T k false x)) (fn_of T (k + 1) m (half_of T k true x))) (tree (suc m) (fn_of T k (suc m) x)) (own_node n T c m k x s r))

-- The function of a record of column k is the node with its low and high numbers' functions for halves.
pub record_fn : (T : Table) (k : ℕ) (m : ℕ) (j : ℕ) → T.level j ≡ k → fn_of T k (suc m) (j + 2) ≡ node_fn T k m (T.low j) (T.high j)
unfolding fn_of node_fn
record_fn T k m j e = λ i. (fn_of T (k + 1) m (half-low T k j e i), fn_of T (k + 1) m (half_high T k j e i))

-- The low and high numbers of a record in use are references at the column after its own.
pub low-refers : (n : ℕ) (T : Table) (c : ℕ) (k : ℕ) (j : ℕ) → good_table n T c ≡ true → j < c → T.level j ≡ k → refers T c (k + 1) (T.low j) ≡ true
low-refers n T c k j g u e =
    refers_wider T j c (T.level j + 1) (k + 1) (T.low j) (omega arith) (omega arith) (good-at n T c g j u).low

pub high-refers : (n : ℕ) (T : Table) (c : ℕ) (k : ℕ) (j : ℕ) → good_table n T c ≡ true → j < c → T.level j ≡ k → refers T c (k + 1) (T.high j) ≡ true
high-refers n T c k j g u e =
    refers_wider T j c (T.level j + 1) (k + 1) (T.high j) (omega arith) (omega arith) (good-at n T c g j u).high

-- Two nodes of a column with the same function have the same halves.
pub joined-low : (n : ℕ) (T : Table) (c : ℕ) (m : ℕ) (k : ℕ) (l : ℕ) (h : ℕ) (l' : ℕ) (h' : ℕ) → good_table n T c ≡ true → k + suc m ≡ n →
    refers T c (k + 1) l ≡ true → refers T c (k + 1) l' ≡ true → node_fn T k m l h ≡ node_fn T k m l' h' → l ≡ l'
unfolding node_fn
joined-low n T c m k l h l' h' g s r r' e = equal_numbers n T c g m (k + 1) l l' (omega arith) r r' (λ i. (e i).0)

pub joined-high : (n : ℕ) (T : Table) (c : ℕ) (m : ℕ) (k : ℕ) (l : ℕ) (h : ℕ) (l' : ℕ) (h' : ℕ) → good_table n T c ≡ true → k + suc m ≡ n →
    refers T c (k + 1) h ≡ true → refers T c (k + 1) h' ≡ true → node_fn T k m l h ≡ node_fn T k m l' h' → h ≡ h'
unfolding node_fn
joined-high n T c m k l h l' h' g s r r' e = equal_numbers n T c g m (k + 1) h h' (omega arith) r r' (λ i. (e i).1)

-- The level of a record is told by the columns of its function.
pub told-level : (n : ℕ) (T : Table) (m : ℕ) (k : ℕ) (j : ℕ) (f : Fn (suc m)) → k + suc m ≡ n → T.level j < n → tree (suc m) f ≡ record_tree n T j → T.level j ≡ k
unfolding record_tree
told-level n T m k j f s b e =
    let w : suc m ≡ n - T.level j = tree-columns (suc m) (n - T.level j) f (fn_of T (T.level j) (n - T.level j) (j + 2)) e in
    omega arith

-- Where the look-up finds no record, no record has that function.
pub absent : (n : ℕ) (T : Table) (c : ℕ) (m : ℕ) (k : ℕ) (l : ℕ) (h : ℕ) → good_table n T c ≡ true → k + suc m ≡ n →
    refers T c (k + 1) l ≡ true → refers T c (k + 1) h ≡ true → number_at T c k l h ≡ 0 → has (functions n T c) (tree (suc m) (node_fn T k m l h)) ≡ false
absent n T c m k l h g s rl rh z =
    must_be_false (has (functions n T c) (tree (suc m) (node_fn T k m l h)))
    (λ e. refuted (of_record n T c (tree (suc m) (node_fn T k m l h)) e))
  where
    refuted : OfRecord n T c (tree (suc m) (node_fn T k m l h)) → ⊥
    refuted r =
        let j = r.place in
        let u = r.used in
        let lv : T.level j ≡ k = told-level n T m k j (node_fn T k m l h) s (good-at n T c g j u).level r.is in
        let f : node_fn T k m l h ≡ node_fn T k m (T.low j) (T.high j) = tree_values (suc m) (node_fn T k m l h) (fn_of T k (suc m) (j + 2)) (r.is ∙ record-tree n T k m j s lv) ∙ record_fn T k m j lv in
        number-missing T c k l h z j u
        (record_is T j k l h
        (record {
          level = lv;
          low = sym (joined-low n T c m k l h (T.low j) (T.high j) g s rl (low-refers n T c k j g u lv) f);
          high = sym (joined-high n T c m k l h (T.low j) (T.high j) g s rh (high-refers n T c k j g u lv) f);
        }))

-- A table with one record more.
module _ (n : ℕ) (T : Table) (T' : Table) (c : ℕ) (m : ℕ) (k : ℕ) (l : ℕ) (h : ℕ) (g : good_table n T c ≡ true) (s : k + suc m ≡ n)
    (rl : refers T c (k + 1) l ≡ true) (rh : refers T c (k + 1) h ≡ true) (d : l ≡ h → ⊥) (z : number_at T c k l h ≡ 0)
    (a : Agree T T' c) (q : IsRecord T' c k l h) where
  pub put-good : good_table n T' (suc c) ≡ true
  unfolding good_table
  put-good =
      and_intro (good_table n T' c) (good_record n T' c) (agree-good n T T' c a g)
      (good-record n T' c
      (record {
        level = omega (arith, q.level);
        differ = λ e. d (sym q.low ∙ e ∙ q.high);
        low = subst⁻¹ (λ v. refers T' c (v + 1) (T'.low c) ≡ true) q.level (subst⁻¹ (λ x. refers T' c (k + 1) x ≡ true) q.low (agree-refers T T' c a (k + 1) l rl));
        high = subst⁻¹ (λ v. refers T' c (v + 1) (T'.high c) ≡ true) q.level (subst⁻¹ (λ x. refers T' c (k + 1) x ≡ true) q.high (agree-refers T T' c a (k + 1) h rh));
        new =
            ap (λ v. number_at T' c v (T'.low c) (T'.high c)) q.level ∙
            ap (λ x. number_at T' c k x (T'.high c)) q.low ∙
            ap (λ x. number_at T' c k l x) q.high ∙
            agree-number T T' c a k l h ∙
            z;
      }))

  pub put_fn : fn_of T' k (suc m) (c + 2) ≡ node_fn T k m l h
  unfolding node_fn
  put_fn =
      record_fn T' k m c q.level ∙
      (λ i. (
        (ap (fn_of T' (k + 1) m) q.low ∙ agree_fn T T' c a n g m (k + 1) l rl) i,
        (ap (fn_of T' (k + 1) m) q.high ∙ agree_fn T T' c a n g m (k + 1) h rh) i,
      ))

  pub put-functions : functions n T' (suc c) ≡ functions n T c ++ (tree (suc m) (node_fn T k m l h) ∷ [])
  unfolding functions
  put-functions =
      ap (λ S. S ++ (record_tree n T' c ∷ [])) (agree-functions n T T' c a g) ∙
      ap (λ t. functions n T c ++ (t ∷ [])) (record-tree n T' k m c s q.level ∙ ap (tree (suc m)) put_fn)

  pub put-refers : refers T' (suc c) k (c + 2) ≡ true
  put-refers = record_refers T' (suc c) k c (omega arith) (omega (arith, q.level))
