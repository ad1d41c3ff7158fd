-- What each test of the table's definitions says, as facts about numbers.
use mathlib.Core.Path.{◌≡◌, refl, sym, ap, ◌∙◌, subst, subst⁻¹}
use mathlib.Core.Bool.{Bool, true, false, cond, not, ◌&&◌, ◌||◌}
use mathlib.Core.Logic.{◌⊎◌, inl, inr}
use Prim.Native.Nat.{ℕ, zero, suc, ◌+◌, ◌-◌, ◌<◌, ◌≤◌}
use native.Mathlib.Nat.{not-suc-le-zero}
use native.Mathlib.Omega.{arith}
use lib.Dec.{eqb, ltb}
use borrow.Author.Tests.{ltb-true, ltb-false, eqb-true, eqb-false, lt-ltb, le-ltb, eq-eqb, ne_eqb, not-true}
use Rattle.rule.proofs.Bools.{and_left, and_right, and_intro, or_left, or_right, clash, which}
use Rattle.graph.specs.Table.{Table, is_at, child, half_of, refers, is_record, number_at, good_record, good_table}

-- The place of a record's number.
pub back : (j : ℕ) → j + 2 - 2 ≡ j
back j = omega arith

-- A number of one of the first c records, of a level of at least k.
pub record InUse (T : Table) (c : ℕ) (k : ℕ) (x : ℕ) : Type 0 where
  pub place : ℕ
  pub number : x ≡ place + 2
  pub used : place < c
  pub deep : k ≤ T.level place

-- A reference is a constant or such a number.
pub refers-is : (T : Table) (c : ℕ) (k : ℕ) (x : ℕ) → refers T c k x ≡ true → (x < 2) ⊎ InUse T c k x
unfolding refers
refers-is T c k x e = go (which (ltb x 2))
  where
    later : ltb x 2 ≡ false → (ltb (x - 2) c && not (ltb (T.level (x - 2)) k)) ≡ true
    later n = ap (λ b. b || (ltb (x - 2) c && not (ltb (T.level (x - 2)) k))) (sym n) ∙ e

    go : (ltb x 2 ≡ true) ⊎ (ltb x 2 ≡ false) → (x < 2) ⊎ InUse T c k x
    go (inl t) = inl (ltb-true x 2 t)
    go (inr n) =
        inr
        (record {
          place = x - 2;
          number = omega (arith, ltb-false x 2 n);
          used = ltb-true (x - 2) c (and_left (ltb (x - 2) c) (not (ltb (T.level (x - 2)) k)) (later n));
          deep =
              ltb-false (T.level (x - 2)) k
              (not-true (ltb (T.level (x - 2)) k) (and_right (ltb (x - 2) c) (not (ltb (T.level (x - 2)) k)) (later n)));
        })

pub constant-refers : (T : Table) (c : ℕ) (k : ℕ) (x : ℕ) → x < 2 → refers T c k x ≡ true
unfolding refers
constant-refers T c k x h = or_left (ltb x 2) (ltb (x - 2) c && not (ltb (T.level (x - 2)) k)) (lt-ltb x 2 h)

pub record_refers : (T : Table) (c : ℕ) (k : ℕ) (j : ℕ) → j < c → k ≤ T.level j → refers T c k (j + 2) ≡ true
unfolding refers
record_refers T c k j h d =
    or_right (ltb (j + 2) 2) (ltb (j + 2 - 2) c && not (ltb (T.level (j + 2 - 2)) k))
    (subst⁻¹ (λ i. (ltb i c && not (ltb (T.level i) k)) ≡ true) (back j)
    (and_intro (ltb j c) (not (ltb (T.level j) k)) (lt-ltb j c h) (ap not (le-ltb (T.level j) k d))))

pub is-refers : (T : Table) (c : ℕ) (k : ℕ) (x : ℕ) → (x < 2) ⊎ InUse T c k x → refers T c k x ≡ true
is-refers T c k x (inl h) = constant-refers T c k x h
is-refers T c k x (inr u) =
    subst⁻¹ (λ y. refers T c k y ≡ true) u.number (record_refers T c k u.place u.used u.deep)

-- More records, or a column further left, and a reference stays one.
pub refers_wider : (T : Table) (c : ℕ) (c' : ℕ) (k : ℕ) (k' : ℕ) (x : ℕ) → c ≤ c' → k' ≤ k → refers T c k x ≡ true → refers T c' k' x ≡ true
refers_wider T c c' k k' x h g e = go (refers-is T c k x e)
  where
    go : (x < 2) ⊎ InUse T c k x → refers T c' k' x ≡ true
    go (inl s) = constant-refers T c' k' x s
    go (inr u) =
        is-refers T c' k' x
        (inr (record { place = u.place; number = u.number; used = omega (arith, u.used); deep = omega (arith, u.deep) }))

-- A constant is its own half; so is a record of another level; a record of the level has its low and high numbers.
pub half-constant : (T : Table) (k : ℕ) (d : Bool) (x : ℕ) → x < 2 → half_of T k d x ≡ x
unfolding half_of is_at
half-constant T k d x h = ap (λ b. cond (not b && eqb (T.level (x - 2)) k) (child T d x) x) (lt-ltb x 2 h)

is_at_record : (T : Table) (k : ℕ) (j : ℕ) → is_at T k (j + 2) ≡ eqb (T.level j) k
unfolding is_at
is_at_record T k j =
    ap (λ b. not b && eqb (T.level (j + 2 - 2)) k) (le-ltb (j + 2) 2 (omega arith)) ∙ ap (λ i. eqb (T.level i) k) (back j)

pub half_other : (T : Table) (k : ℕ) (d : Bool) (j : ℕ) → (T.level j ≡ k → ⊥) → half_of T k d (j + 2) ≡ j + 2
unfolding half_of
half_other T k d j n = ap (λ b. cond b (child T d (j + 2)) (j + 2)) (is_at_record T k j ∙ ne_eqb (T.level j) k n)

half_at : (T : Table) (k : ℕ) (d : Bool) (j : ℕ) → T.level j ≡ k → half_of T k d (j + 2) ≡ child T d (j + 2)
unfolding half_of
half_at T k d j e = ap (λ b. cond b (child T d (j + 2)) (j + 2)) (is_at_record T k j ∙ eq-eqb (T.level j) k e)

pub half-low : (T : Table) (k : ℕ) (j : ℕ) → T.level j ≡ k → half_of T k false (j + 2) ≡ T.low j
unfolding child
half-low T k j e = half_at T k false j e ∙ ap T.low (back j)

pub half_high : (T : Table) (k : ℕ) (j : ℕ) → T.level j ≡ k → half_of T k true (j + 2) ≡ T.high j
unfolding child
half_high T k j e = half_at T k true j e ∙ ap T.high (back j)

-- What a record with given numbers is.
pub record IsRecord (T : Table) (j : ℕ) (v : ℕ) (l : ℕ) (h : ℕ) : Type 0 where
  pub level : T.level j ≡ v
  pub low : T.low j ≡ l
  pub high : T.high j ≡ h

pub is-record : (T : Table) (j : ℕ) (v : ℕ) (l : ℕ) (h : ℕ) → is_record T j v l h ≡ true → IsRecord T j v l h
unfolding is_record
is-record T j v l h e =
    let first = and_left (eqb (T.level j) v && eqb (T.low j) l) (eqb (T.high j) h) e in
    record {
      level = eqb-true (T.level j) v (and_left (eqb (T.level j) v) (eqb (T.low j) l) first);
      low = eqb-true (T.low j) l (and_right (eqb (T.level j) v) (eqb (T.low j) l) first);
      high = eqb-true (T.high j) h (and_right (eqb (T.level j) v && eqb (T.low j) l) (eqb (T.high j) h) e);
    }

pub record_is : (T : Table) (j : ℕ) (v : ℕ) (l : ℕ) (h : ℕ) → IsRecord T j v l h → is_record T j v l h ≡ true
unfolding is_record
record_is T j v l h r =
    and_intro (eqb (T.level j) v && eqb (T.low j) l) (eqb (T.high j) h)
    (and_intro (eqb (T.level j) v) (eqb (T.low j) l) (eq-eqb (T.level j) v r.level) (eq-eqb (T.low j) l r.low))
    (eq-eqb (T.high j) h r.high)

-- The look-up: a number that is not 0 is that of a record with the level, the low and the high number; at 0 none has them.
pub record Looked (T : Table) (c : ℕ) (v : ℕ) (l : ℕ) (h : ℕ) (x : ℕ) : Type 0 where
  pub place : ℕ
  pub number : x ≡ place + 2
  pub used : place < c
  pub here : IsRecord T place v l h

pub number-found : (T : Table) (c : ℕ) (v : ℕ) (l : ℕ) (h : ℕ) → (number_at T c v l h ≡ 0 → ⊥) → Looked T c v l h (number_at T c v l h)
unfolding number_at
number-found T zero v l h n = absurd (n refl)
number-found T (suc j) v l h n = go (is_record T j v l h) refl n (number-found T j v l h)
  where
    go : (b : Bool) → is_record T j v l h ≡ b → (cond b (j + 2) (number_at T j v l h) ≡ 0 → ⊥) →
        ((number_at T j v l h ≡ 0 → ⊥) → Looked T j v l h (number_at T j v l h)) → Looked T (suc j) v l h (cond b (j + 2) (number_at T j v l h))
    go true e m ih = record { place = j; number = refl; used = omega arith; here = is-record T j v l h e }
    go false e m ih = let q = ih m in record { place = q.place; number = q.number; used = omega (arith, q.used); here = q.here }

pub number-missing : (T : Table) (c : ℕ) (v : ℕ) (l : ℕ) (h : ℕ) → number_at T c v l h ≡ 0 → (j : ℕ) → j < c → is_record T j v l h ≡ true → ⊥
unfolding number_at
number-missing T zero v l h e j u r = absurd (not-suc-le-zero u)
number-missing T (suc i) v l h e j u r = go (is_record T i v l h) refl e (number-missing T i v l h)
  where
    go : (b : Bool) → is_record T i v l h ≡ b → cond b (i + 2) (number_at T i v l h) ≡ 0 →
        (number_at T i v l h ≡ 0 → (j : ℕ) → j < i → is_record T j v l h ≡ true → ⊥) → ⊥
    go true e m ih = omega arith
    go false e m ih =
        let differ : j ≡ i → ⊥ = λ q. clash (subst (λ k. is_record T k v l h ≡ true) q r) e in
        ih m j (omega arith) r

-- What it is for a record to keep its rule.
pub record Good (n : ℕ) (T : Table) (i : ℕ) : Type 0 where
  pub level : T.level i < n
  pub differ : T.low i ≡ T.high i → ⊥
  pub low : refers T i (T.level i + 1) (T.low i) ≡ true
  pub high : refers T i (T.level i + 1) (T.high i) ≡ true
  pub new : number_at T i (T.level i) (T.low i) (T.high i) ≡ 0

pub record_good : (n : ℕ) (T : Table) (i : ℕ) → good_record n T i ≡ true → Good n T i
unfolding good_record
record_good n T i e =
    let e3 = and_left a (eqb (number_at T i (T.level i) (T.low i) (T.high i)) 0) e in
    let e2 = and_left b (refers T i (T.level i + 1) (T.high i)) e3 in
    let e1 = and_left d (refers T i (T.level i + 1) (T.low i)) e2 in
    record {
      level = ltb-true (T.level i) n (and_left (ltb (T.level i) n) (not (eqb (T.low i) (T.high i))) e1);
      differ =
          eqb-false (T.low i) (T.high i)
          (not-true (eqb (T.low i) (T.high i)) (and_right (ltb (T.level i) n) (not (eqb (T.low i) (T.high i))) e1));
      low = and_right d (refers T i (T.level i + 1) (T.low i)) e2;
      high = and_right b (refers T i (T.level i + 1) (T.high i)) e3;
      new =
          eqb-true (number_at T i (T.level i) (T.low i) (T.high i)) 0
          (and_right a (eqb (number_at T i (T.level i) (T.low i) (T.high i)) 0) e);
    }
  where
    d : Bool
    d = ltb (T.level i) n && not (eqb (T.low i) (T.high i))

    b : Bool
    b = d && refers T i (T.level i + 1) (T.low i)

    a : Bool
    a = b && refers T i (T.level i + 1) (T.high i)

pub good-record : (n : ℕ) (T : Table) (i : ℕ) → Good n T i → good_record n T i ≡ true
unfolding good_record
good-record n T i g =
    and_intro (a && refers T i (T.level i + 1) (T.high i)) (eqb (number_at T i (T.level i) (T.low i) (T.high i)) 0)
    (and_intro a (refers T i (T.level i + 1) (T.high i))
    (and_intro d (refers T i (T.level i + 1) (T.low i))
    (and_intro (ltb (T.level i) n) (not (eqb (T.low i) (T.high i))) (lt-ltb (T.level i) n g.level)
    (ap not (ne_eqb (T.low i) (T.high i) g.differ)))
    g.low)
    g.high)
    (eq-eqb (number_at T i (T.level i) (T.low i) (T.high i)) 0 g.new)
  where
    d : Bool
    d = ltb (T.level i) n && not (eqb (T.low i) (T.high i))

    a : Bool
    a = d && refers T i (T.level i + 1) (T.low i)

-- Every record in use keeps its rule.
pub good-at : (n : ℕ) (T : Table) (c : ℕ) → good_table n T c ≡ true → (i : ℕ) → i < c → Good n T i
unfolding good_table
good-at n T zero e i h = absurd (not-suc-le-zero h)
good-at n T (suc c) e i h = go (which (eqb i c)) (good-at n T c (and_left (good_table n T c) (good_record n T c) e) i)
  where
    go : (eqb i c ≡ true) ⊎ (eqb i c ≡ false) → (i < c → Good n T i) → Good n T i
    go (inl t) ih = subst⁻¹ (Good n T) (eqb-true i c t) (record_good n T c (and_right (good_table n T c) (good_record n T c) e))
    go (inr f) ih = let differ = eqb-false i c f in ih (omega arith)
