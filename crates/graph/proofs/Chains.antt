-- Chains: the records of a bucket are all on its chain, so that a look-up along it misses none.
use mathlib.Core.Path.{◌≡◌, refl, sym, ap, ◌∙◌, subst⁻¹}
use mathlib.Core.Bool.{Bool, true, false, cond, ◌&&◌, true≢false}
use mathlib.Core.List.{List}
use mathlib.Core.Logic.{◌⊎◌, inl, inr}
use Prim.Native.Nat.{ℕ, zero, suc, ◌+◌, ◌-◌, ◌<◌, ◌≤◌}
use native.Mathlib.Nat.{not-suc-le-zero}
use native.Mathlib.Omega.{arith}
use lib.Dec.{eqb}
use lib.ListN.{get_or, set, replicate, length-set, length-replicate, get_or-replicate}
use lib.Seq.{get_or-set_same, get_or-set_other}
use borrow.Author.Tests.{eqb-true, eqb-false}
use Rattle.rule.proofs.Bools.{and_left, and_right, which}
use Rattle.graph.specs.Table.{Table, table_of, is_record, number_at}
use Rattle.graph.specs.Sound.{Sized}
use Rattle.graph.proofs.Tests.{record_is}
use Rattle.graph.proofs.Reading.{not_found-here}
use Rattle.graph.specs.Chain.{bucket_of, bucket_at, latest, Chained, Linkable}

module _ (T : Table) (v l h : ℕ) where
  -- An equal record is in the same bucket.
  same_bucket : (j : ℕ) → is_record T j v l h ≡ true → bucket_at T j ≡ bucket_of v l h
  unfolding is_record bucket_at
  same_bucket j e =
      let a = and_left (eqb (T.level j) v && eqb (T.low j) l) (eqb (T.high j) h) e in
      λ i. bucket_of (eqb-true (T.level j) v (and_left (eqb (T.level j) v) (eqb (T.low j) l) a) i)
      (eqb-true (T.low j) l (and_right (eqb (T.level j) v) (eqb (T.low j) l) a) i)
      (eqb-true (T.high j) h (and_right (eqb (T.level j) v && eqb (T.low j) l) (eqb (T.high j) h) e) i)

  -- So the look-up may go to the latest record of the bucket at once.
  pub skip_to_latest : (i : ℕ) → number_at T i v l h ≡ number_at T (latest T (bucket_of v l h) i) v l h
  unfolding number_at latest
  skip_to_latest zero = refl
  skip_to_latest (suc j) = go (eqb (bucket_at T j) (bucket_of v l h)) refl (is_record T j v l h) refl (skip_to_latest j)
    where
      go : (b : Bool) → eqb (bucket_at T j) (bucket_of v l h) ≡ b → (r : Bool) → is_record T j v l h ≡ r
          → number_at T j v l h ≡ number_at T (latest T (bucket_of v l h) j) v l h
          → cond r (j + 2) (number_at T j v l h) ≡ number_at T (cond b (suc j) (latest T (bucket_of v l h) j)) v l h
      go true e r f ih = sym (ap (λ q. cond q (j + 2) (number_at T j v l h)) f)
      go false e true f ih = absurd (eqb-false (bucket_at T j) (bucket_of v l h) e (same_bucket j f))
      go false e false f ih = ih

-- The latest record of a bucket is one of the records, and in the bucket.
pub latest-is : (T : Table) (b i j : ℕ) → latest T b i ≡ suc j → (j < i) × (bucket_at T j ≡ b)
unfolding latest
latest-is T b zero j e = let z : ⊥ = omega (arith, e) in absurd z
latest-is T b (suc k) j e = go (eqb (bucket_at T k) b) refl e (latest-is T b k j)
  where
    go : (q : Bool) → eqb (bucket_at T k) b ≡ q → cond q (suc k) (latest T b k) ≡ suc j → (latest T b k ≡ suc j → (j < k) × (bucket_at T j ≡ b))
        → (j < suc k) × (bucket_at T j ≡ b)
    go true f g ih = let p : k ≡ j = omega (arith, g) in (omega arith, ap (bucket_at T) (sym p) ∙ eqb-true (bucket_at T k) b f)
    go false f g ih = let q = ih g in (omega (arith, q.0), q.1)

pub latest-within : (T : Table) (b i : ℕ) → latest T b i ≤ i
unfolding latest
latest-within T b zero = omega arith
latest-within T b (suc k) = go (eqb (bucket_at T k) b) (latest-within T b k)
  where
    go : (q : Bool) → latest T b k ≤ k → cond q (suc k) (latest T b k) ≤ suc k
    go true h = omega arith
    go false h = omega arith

-- A bucket is one of 1,024.
pub bucket_bound : (v l h : ℕ) → bucket_of v l h < 1024
unfolding bucket_of
bucket_bound v l h = omega arith

pub within-buckets : (r v l h : ℕ) → r ≡ bucket_of v l h → r < 1024
within-buckets r v l h e = omega (arith, e, bucket_bound v l h)

-- The walk along a chain. What is still to be looked up: the place x, from 1, of a record of the bucket, or 0.
pub record Walking (T : Table) (c : ℕ) (v l h : ℕ) (x : ℕ) : Type 0 where
  pub within : x ≤ c
  pub decides : number_at T c v l h ≡ number_at T x v l h
  pub bucket : (j : ℕ) → x ≡ suc j → bucket_at T j ≡ bucket_of v l h

pub walk_begins : (T : Table) (c v l h x : ℕ) → x ≡ latest T (bucket_of v l h) c → Walking T c v l h x
walk_begins T c v l h x e =
    record {
      within = omega (arith, e, latest-within T (bucket_of v l h) c);
      decides = skip_to_latest T v l h c ∙ ap (λ y. number_at T y v l h) (sym e);
      bucket = λ j f. (latest-is T (bucket_of v l h) c j (sym e ∙ f)).1;
    }

pub walk_on : (T : Table) (c v l h x y : ℕ) → 0 < x → Walking T c v l h x → is_record T (x - 1) v l h ≡ false
    → y ≡ latest T (bucket_at T (x - 1)) (x - 1) → (y < x) × Walking T c v l h y
walk_on T c v l h x y p w n e =
    let b : bucket_at T (x - 1) ≡ bucket_of v l h = w.bucket (x - 1) (omega arith) in
    let f : y ≡ latest T (bucket_of v l h) (x - 1) = e ∙ ap (λ k. latest T k (x - 1)) b in
    let g = latest-within T (bucket_of v l h) (x - 1) in (
      omega (arith, f, g),
      record {
        within = omega (arith, f, g, w.within);
        decides =
            w.decides ∙ not_found-here T v l h x p (λ r. no_record (record_is T (x - 1) v l h r)) ∙
            skip_to_latest T v l h (x - 1) ∙ ap (λ k. number_at T k v l h) (sym f);
        bucket = λ j k. (latest-is T (bucket_of v l h) (x - 1) j (sym f ∙ k)).1;
      },
    )
  where
    no_record : is_record T (x - 1) v l h ≡ true → ⊥
    no_record t = true≢false (sym t ∙ n)

add_one : (i : ℕ) → i + 1 ≡ suc i
add_one i = omega arith

-- One record more on its chain.
module _ (i : ℕ) (v l h last prev : List ℕ) (p : Linkable i v l h last prev) where
  abbrev T : Table
  T = table_of v l h

  abbrev b : ℕ
  b = bucket_at T i

  in_bucket : b < 1024
  unfolding bucket_at
  in_bucket = bucket_bound (T.level i) (T.low i) (T.high i)

  pub chain_more : (x : ℕ) → x ≡ get_or last b 0 → Chained (i + 1) v l h (set last b (i + 1)) (set prev i x)
  unfolding latest
  chain_more x e =
      record {
        sized =
            record {
              count = omega (arith, p.more);
              low = p.chained.sized.low;
              high = p.chained.sized.high;
              room = p.chained.sized.room;
            };
        buckets = length-set last b (i + 1) ∙ p.chained.buckets;
        places = length-set prev i x ∙ p.chained.places;
        heads = λ d u. head d u (which (eqb b d)) ∙ ap (latest T d) (sym (add_one i));
        links = λ j u. link j u (which (eqb j i));
      }
    where
      head : (d : ℕ) → d < 1024 → (eqb b d ≡ true) ⊎ (eqb b d ≡ false) → get_or (set last b (i + 1)) d 0 ≡ cond (eqb b d) (suc i) (latest T d i)
      head d u (inl f) =
          ap (λ k. get_or (set last b (i + 1)) k 0) (sym (eqb-true b d f)) ∙
          get_or-set_same last b (i + 1) 0 (omega (arith, in_bucket, p.chained.buckets)) ∙
          add_one i ∙ sym (ap (λ q. cond q (suc i) (latest T d i)) f)
      head d u (inr f) =
          get_or-set_other last b d (i + 1) 0 (λ k. eqb-false b d f (sym k)) ∙ p.chained.heads d u ∙
          sym (ap (λ q. cond q (suc i) (latest T d i)) f)

      link : (j : ℕ) → j < i + 1 → (eqb j i ≡ true) ⊎ (eqb j i ≡ false) → get_or (set prev i x) j 0 ≡ latest T (bucket_at T j) j
      link j u (inl f) =
          let k = eqb-true j i f in
          ap (λ y. get_or (set prev i x) y 0) k ∙
          get_or-set_same prev i x 0 (omega (arith, p.more, p.chained.places, p.chained.sized.room)) ∙
          e ∙ p.chained.heads b in_bucket ∙ ap (λ y. latest T (bucket_at T y) y) (sym k)
      link j u (inr f) =
          get_or-set_other prev i j x 0 (eqb-false j i f) ∙ p.chained.links j (omega (arith, u, eqb-false j i f))

-- The same by the bucket's number as the code has it.
pub chained_by : (i : ℕ) (v l h last prev : List ℕ) → Linkable i v l h last prev → (b : ℕ) → b ≡ bucket_at (table_of v l h) i
    → Chained (i + 1) v l h (set last b (i + 1)) (set prev i (get_or last b 0))
chained_by i v l h last prev p b e =
    subst⁻¹ (λ d. Chained (i + 1) v l h (set last d (i + 1)) (set prev i (get_or last d 0))) e
    (chain_more i v l h last prev p (get_or last (bucket_at (table_of v l h) i) 0) refl)

-- No record is on a chain yet.
pub no_chains : (c : ℕ) (v l h : List ℕ) → Sized c v l h → Chained 0 v l h (replicate 1024 0) (replicate 4096 0)
unfolding latest
no_chains c v l h s =
    record {
      sized = record { count = omega arith; low = s.low; high = s.high; room = s.room };
      buckets = length-replicate {A = ℕ} 1024 0;
      places = length-replicate {A = ℕ} 4096 0;
      heads = λ b u. get_or-replicate {A = ℕ} 1024 b 0 0 u;
      links = λ j u. absurd (not-suc-le-zero u);
    }
