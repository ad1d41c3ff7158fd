-- What records past those in use do not change: two tables that agree on the first c records give the references into
-- these the same halves and functions, and keep the table's rule alike.
use mathlib.Core.Path.{◌≡◌, refl, sym, ap, ◌∙◌, subst⁻¹}
use mathlib.Core.Bool.{Bool, true, false, cond, ◌&&◌}
use mathlib.Core.List.{[], ◌∷◌, ◌++◌}
use mathlib.Core.Logic.{inl, inr, ⊎_elim}
use Prim.Native.Nat.{ℕ, zero, suc, ◌+◌, ◌-◌, ◌<◌, ◌≤◌}
use native.Mathlib.Omega.{arith}
use lib.Dec.{eqb}
use Rattle.rule.specs.Nodes.{tree}
use Rattle.rule.proofs.Bools.{and_left, and_right, and_intro}
use Rattle.graph.specs.Table.{Table, half_of, fn_of, refers, is_record, number_at, good_record, good_table, record_tree, functions, Agree}
use Rattle.graph.proofs.Tests.{refers-is, is-refers, record_refers, Good, record_good, good-record}
use Rattle.graph.proofs.Numbers.{Idle, AtLevel, idle_or_at, low_half, high_half, half-refers}

pub agree_fewer : {T : Table} {T' : Table} (c : ℕ) (d : ℕ) → d ≤ c → Agree T T' c → Agree T T' d
agree_fewer c d h a =
    record {
      level = λ j u. a.level j (omega arith);
      low = λ j u. a.low j (omega arith);
      high = λ j u. a.high j (omega arith);
    }

pub agree_back : {T : Table} {T' : Table} {c : ℕ} → Agree T T' c → Agree T' T c
agree_back a =
    record { level = λ j u. sym (a.level j u); low = λ j u. sym (a.low j u); high = λ j u. sym (a.high j u) }

pub agree_through : {T : Table} {T' : Table} {T'' : Table} (c : ℕ) (d : ℕ) → c ≤ d → Agree T T' c → Agree T' T'' d → Agree T T'' c
agree_through c d h a b =
    record {
      level = λ j u. b.level j (omega arith) ∙ a.level j u;
      low = λ j u. b.low j (omega arith) ∙ a.low j u;
      high = λ j u. b.high j (omega arith) ∙ a.high j u;
    }

module _ (T : Table) (T' : Table) (c : ℕ) (a : Agree T T' c) where
  pub agree-refers : (k : ℕ) (x : ℕ) → refers T c k x ≡ true → refers T' c k x ≡ true
  agree-refers k x r =
      is-refers T' c k x
      (⊎_elim (λ h. inl h)
      (λ u.
      inr
      (record {
        place = u.place;
        number = u.number;
        used = u.used;
        deep = subst⁻¹ (λ v. k ≤ v) (a.level u.place u.used) u.deep;
      }))
      (refers-is T c k x r))

  -- A record of the column, in the other table.
  at_too : (k : ℕ) (x : ℕ) → AtLevel T c k x → AtLevel T' c k x
  at_too k x q = record { place = q.place; number = q.number; used = q.used; level = a.level q.place q.used ∙ q.level }

  -- A number that is its own half is so in the other table.
  idle_too : (k : ℕ) (d : Bool) (x : ℕ) → refers T c k x ≡ true → Idle T c k x → half_of T' k d x ≡ x
  idle_too k d x r i = ⊎_elim (λ j. j.half d) (λ q. absurd (no_level q)) (idle_or_at T' c k x (agree-refers k x r))
    where
      no_level : AtLevel T' c k x → ⊥
      no_level q =
          ⊎_elim (λ h. omega (arith, q.number))
          (λ u.
          let same : u.place ≡ q.place = omega (arith, q.number, u.number) in
          omega (arith, u.deep, ap T.level same, a.level q.place q.used, q.level))
          (refers-is T c (k + 1) x i.next)

  pub agree-half : (k : ℕ) (d : Bool) (x : ℕ) → refers T c k x ≡ true → half_of T' k d x ≡ half_of T k d x
  unfolding at_too
  agree-half k d x r = ⊎_elim (λ i. idle_too k d x r i ∙ sym (i.half d)) (at-half d) (idle_or_at T c k x r)
    where
      at-half : (b : Bool) → AtLevel T c k x → half_of T' k b x ≡ half_of T k b x
      at-half false q = low_half T' c k x (at_too k x q) ∙ a.low q.place q.used ∙ sym (low_half T c k x q)
      at-half true q = high_half T' c k x (at_too k x q) ∙ a.high q.place q.used ∙ sym (high_half T c k x q)

  pub agree_fn : (n : ℕ) → good_table n T c ≡ true → (m : ℕ) (k : ℕ) (x : ℕ) → refers T c k x ≡ true → fn_of T' k m x ≡ fn_of T k m x
  unfolding fn_of
  agree_fn n g zero k x r = refl
  agree_fn n g (suc m) k x r =
      λ i. (
        (ap (fn_of T' (k + 1) m) (agree-half k false x r) ∙ agree_fn n g m (k + 1) (half_of T k false x) (half-refers n T c k false x g r)) i,
        (ap (fn_of T' (k + 1) m) (agree-half k true x r) ∙ agree_fn n g m (k + 1) (half_of T k true x) (half-refers n T c k true x g r)) i,
      )

-- The look-up, the table's rule and the records' functions.
pub agree-number : (T : Table) (T' : Table) (c : ℕ) → Agree T T' c → (v : ℕ) (l : ℕ) (h : ℕ) → number_at T' c v l h ≡ number_at T c v l h
unfolding number_at is_record
agree-number T T' zero a v l h = refl
agree-number T T' (suc j) a v l h =
    ap (λ y. cond (eqb y v && eqb (T'.low j) l && eqb (T'.high j) h) (j + 2) (number_at T' j v l h)) (a.level j (omega arith)) ∙
    ap (λ y. cond (eqb (T.level j) v && eqb y l && eqb (T'.high j) h) (j + 2) (number_at T' j v l h)) (a.low j (omega arith)) ∙
    ap (λ y. cond (eqb (T.level j) v && eqb (T.low j) l && eqb y h) (j + 2) (number_at T' j v l h)) (a.high j (omega arith)) ∙
    ap (cond (eqb (T.level j) v && eqb (T.low j) l && eqb (T.high j) h) (j + 2)) (agree-number T T' j (agree_fewer (suc j) j (omega arith) a) v l h)

agree_record : (n : ℕ) (T : Table) (T' : Table) (i : ℕ) → Agree T T' (suc i) → Good n T i → Good n T' i
agree_record n T T' i a g =
    let b = agree_fewer (suc i) i (omega arith) a in
    let lv = a.level i (omega arith) in
    let lo = a.low i (omega arith) in
    let hi = a.high i (omega arith) in
    record {
      level = omega (arith, g.level, lv);
      differ = λ e. g.differ (sym lo ∙ e ∙ hi);
      low = subst⁻¹ (λ v. refers T' i (v + 1) (T'.low i) ≡ true) lv (subst⁻¹ (λ x. refers T' i (T.level i + 1) x ≡ true) lo (agree-refers T T' i b (T.level i + 1) (T.low i) g.low));
      high = subst⁻¹ (λ v. refers T' i (v + 1) (T'.high i) ≡ true) lv (subst⁻¹ (λ x. refers T' i (T.level i + 1) x ≡ true) hi (agree-refers T T' i b (T.level i + 1) (T.high i) g.high));
      new =
          ap (λ v. number_at T' i v (T'.low i) (T'.high i)) lv ∙
          ap (λ x. number_at T' i (T.level i) x (T'.high i)) lo ∙
          ap (λ x. number_at T' i (T.level i) (T.low i) x) hi ∙
          agree-number T T' i b (T.level i) (T.low i) (T.high i) ∙
          g.new;
    }

pub agree-good : (n : ℕ) (T : Table) (T' : Table) (c : ℕ) → Agree T T' c → good_table n T c ≡ true → good_table n T' c ≡ true
unfolding good_table
agree-good n T T' zero a g = refl
agree-good n T T' (suc i) a g =
    and_intro (good_table n T' i) (good_record n T' i)
    (agree-good n T T' i (agree_fewer (suc i) i (omega arith) a) (and_left (good_table n T i) (good_record n T i) g))
    (good-record n T' i (agree_record n T T' i a (record_good n T i (and_right (good_table n T i) (good_record n T i) g))))

agree-tree : (n : ℕ) (T : Table) (T' : Table) (c : ℕ) → Agree T T' c → good_table n T c ≡ true → (i : ℕ) → i < c → record_tree n T' i ≡ record_tree n T i
unfolding record_tree
agree-tree n T T' c a g i u =
    ap (λ v. tree (n - v) (fn_of T' v (n - v) (i + 2))) (a.level i u) ∙
    ap (tree (n - T.level i)) (agree_fn T T' c a n g (n - T.level i) (T.level i) (i + 2) (record_refers T c (T.level i) i u (omega arith)))

functions_below : (n : ℕ) (T : Table) (T' : Table) (c : ℕ) → ((i : ℕ) → i < c → record_tree n T' i ≡ record_tree n T i) → functions n T' c ≡ functions n T c
unfolding functions
functions_below n T T' zero h = refl
functions_below n T T' (suc i) h =
    ap (λ s. s ++ (record_tree n T' i ∷ [])) (functions_below n T T' i (λ j u. h j (omega arith))) ∙
    ap (λ t. functions n T i ++ (t ∷ [])) (h i (omega arith))

pub agree-functions : (n : ℕ) (T : Table) (T' : Table) (c : ℕ) → Agree T T' c → good_table n T c ≡ true → functions n T' c ≡ functions n T c
agree-functions n T T' c a g = functions_below n T T' c (agree-tree n T T' c a g)
