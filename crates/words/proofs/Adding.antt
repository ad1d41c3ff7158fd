-- The addition of a cube to what is covered and to what is covered twice, step by step as the code goes: one word for every
-- word, or the halves by the sign of the first column.
use mathlib.Core.Path.{◌≡◌, refl, sym, ap, ap₂, ◌∙◌, subst⁻¹}
use mathlib.Core.Bool.{true, false}
use mathlib.Core.List.{List, ◌++◌}
use mathlib.Core.Logic.{◌⊎◌, inl, inr}
use Prim.Native.Nat.{ℕ, suc, ◌-◌, ◌/◌, ◌<◌, ◌≤◌}
use native.Mathlib.Omega.{arith}
use lib.Bits.{bit_and, bit_or}
use lib.ListN.{length, take, drop, replicate}
use Rattle.rule.specs.Func.{Fn, constant, joined, both, either}
use Rattle.rule.specs.Point.{odd}
use Rattle.rule.proofs.Bools.{clash}
use Rattle.words.specs.Word.{words, size, cube_of, plain, wordwise}
use Rattle.words.specs.Contract.{SizedBothWord, Added}
use Rattle.words.proofs.Tables.{few, words-both, words-either}
use Rattle.words.proofs.Least.{both_false, either_false, either-none}
use Rattle.words.proofs.Cubes.{cube_one, cube_zero, cube-dash, leaf-next, plain-few, words-plain}
use Rattle.words.proofs.Halving.{by_suc}
use Rattle.words.proofs.Halves.{middle, low-length, high-length, back_length, low-words, high-words, low_back, high_back}

-- Only where there are more than six columns can there be a literal before the last six.
pub not_plain : (m o z : ℕ) → plain m o z ≡ false → 6 < m
not_plain m o z e = go (few m)
  where
    go : (m < 6) ⊎ (6 ≤ m) → 6 < m
    go (inl l) = let a : m ≤ 6 = omega arith in clash (plain-few m o z a) e
    go (inr l) =
        let n : m ≡ 6 → ⊥ = λ x. let a : m ≤ 6 = omega arith in clash (plain-few m o z a) e in
        omega arith

-- One word for every word.
pub added_plain : (m o z w : ℕ) (covered twice covered' twice' : List ℕ) → SizedBothWord m o z w covered twice → plain m o z ≡ true
    → covered' ≡ wordwise bit_or (replicate (length covered) w) covered
    → twice' ≡ wordwise bit_or twice (wordwise bit_and (replicate (length covered) w) covered)
    → Added m o z covered twice covered' twice'
added_plain m o z w covered twice covered' twice' s e p q =
    let c : replicate (length covered) w ≡ words m (cube_of m o z) =
    ap₂ replicate s.first s.word ∙ sym (words-plain m o z e) in
    record {
      once = λ f a. p ∙ ap₂ (wordwise bit_or) c a ∙ sym (words-either m (cube_of m o z) f);
      again = λ f g a b.
          q ∙
          ap₂ (wordwise bit_or) b (ap₂ (wordwise bit_and) c a ∙ sym (words-both m (cube_of m o z) f)) ∙
          sym (words-either m g (both m (cube_of m o z) f));
    }

-- The functions after an addition, by the halves of the cube.
module _ (k o z : ℕ) (p q : Fn k) (c : cube_of (suc k) o z ≡ (p, q)) where
  once-halves : (f : Fn (suc k)) (x y : Fn k) → x ≡ either k p f.0 → y ≡ either k q f.1 → ◌≡◌ {A = Fn (suc k)} (x, y) (either (suc k) (cube_of (suc k) o z) f)
  unfolding either joined
  once-halves f x y a b = pair ∙ ap (λ d. either (suc k) d f) (sym c)
    where
      pair : ◌≡◌ {A = Fn (suc k)} (x, y) (either k p f.0, either k q f.1)
      pair = λ i. (a i, b i)

  again-halves : (f g : Fn (suc k)) (x y : Fn k) → x ≡ either k g.0 (both k p f.0) → y ≡ either k g.1 (both k q f.1)
      → ◌≡◌ {A = Fn (suc k)} (x, y) (either (suc k) g (both (suc k) (cube_of (suc k) o z) f))
  unfolding either both joined
  again-halves f g x y a b = pair ∙ ap (λ d. either (suc k) g (both (suc k) d f)) (sym c)
    where
      pair : ◌≡◌ {A = Fn (suc k)} (x, y) (either k g.0 (both k p f.0), either k g.1 (both k q f.1))
      pair = λ i. (a i, b i)

-- A half that the cube does not reach stays.
unreached : (k : ℕ) (f g : Fn k) → g ≡ either k g (both k (constant k false) f)
unreached k f g = sym (ap (either k g) (both_false k f) ∙ either-none k g)

-- The halves of a slice as the code cuts it at h, and the slice when a half comes back.
abbrev low_of : ℕ → List ℕ → List ℕ
low_of h xs = take h xs

abbrev high_of : ℕ → List ℕ → List ℕ
high_of h xs = take (length xs - h) (drop h xs)

abbrev put_low : ℕ → List ℕ → List ℕ → List ℕ
put_low h xs ys = ys ++ drop h xs

abbrev put_high : ℕ → List ℕ → List ℕ → List ℕ
put_high h xs ys = take h xs ++ (ys ++ drop (length xs - h) (drop h xs))

module _ (k o z w h : ℕ) (covered twice : List ℕ) (more : 6 ≤ k) (half : h ≡ size k) (s : SizedBothWord (suc k) o z w covered twice) where
  low-sized : SizedBothWord k (o / 2) (z / 2) w (low_of h covered) (low_of h twice)
  low-sized =
      record {
        columns = omega (arith, s.columns);
        first = low-length k h covered more half s.first;
        second = low-length k h twice more half s.second;
        word = s.word ∙ leaf-next k o z more;
      }

  high-sized : SizedBothWord k (o / 2) (z / 2) w (high_of h covered) (high_of h twice)
  high-sized =
      record {
        columns = omega (arith, s.columns);
        first = high-length k h covered more half s.first;
        second = high-length k h twice more half s.second;
        word = s.word ∙ leaf-next k o z more;
      }

  added_one : odd o ≡ true → (c t : List ℕ) → Added k (o / 2) (z / 2) (high_of h covered) (high_of h twice) c t
      → Added (suc k) o z covered twice (put_high h covered c) (put_high h twice t)
  added_one a c t d =
      record {
        once = λ f e.
            let x = either k (cube_of k (o / 2) (z / 2)) f.1 in
            high_back k h covered more half s.first f e c x
            (d.once f.1 (high-words k h covered more half s.first f e)) ∙
            ap (words (suc k))
            (once-halves k o z (constant k false) (cube_of k (o / 2) (z / 2)) (cube_one k o z a) f f.0 x
            (sym (either_false k f.0)) refl);
        again = λ f g e b.
            let x = either k g.1 (both k (cube_of k (o / 2) (z / 2)) f.1) in
            high_back k h twice more half s.second g b t x
            (d.again f.1 g.1 (high-words k h covered more half s.first f e) (high-words k h twice more half s.second g b)) ∙
            ap (words (suc k))
            (again-halves k o z (constant k false) (cube_of k (o / 2) (z / 2)) (cube_one k o z a) f g g.0 x
            (unreached k f.0 g.0) refl);
      }

  module _ (c t : List ℕ) (d : Added k (o / 2) (z / 2) (low_of h covered) (low_of h twice) c t) where
    -- The table with its half for 0 changed.
    low-once : (f : Fn (suc k)) → covered ≡ words (suc k) f
        → put_low h covered c ≡ words (suc k) (either k (cube_of k (o / 2) (z / 2)) f.0, f.1)
    low-once f e =
        low_back k h covered more half s.first f e c (either k (cube_of k (o / 2) (z / 2)) f.0)
        (d.once f.0 (low-words k h covered more half s.first f e))

    low_again : (f g : Fn (suc k)) → covered ≡ words (suc k) f → twice ≡ words (suc k) g
        → put_low h twice t ≡ words (suc k) (either k g.0 (both k (cube_of k (o / 2) (z / 2)) f.0), g.1)
    low_again f g e b =
        low_back k h twice more half s.second g b t (either k g.0 (both k (cube_of k (o / 2) (z / 2)) f.0))
        (d.again f.0 g.0 (low-words k h covered more half s.first f e) (low-words k h twice more half s.second g b))

    added_zero : odd o ≡ false → odd z ≡ true → Added (suc k) o z covered twice (put_low h covered c) (put_low h twice t)
    added_zero a y =
        record {
          once = λ f e.
              low-once f e ∙
              ap (words (suc k))
              (once-halves k o z (cube_of k (o / 2) (z / 2)) (constant k false) (cube_zero k o z a y) f
              (either k (cube_of k (o / 2) (z / 2)) f.0) f.1 refl (sym (either_false k f.1)));
          again = λ f g e b.
              low_again f g e b ∙
              ap (words (suc k))
              (again-halves k o z (cube_of k (o / 2) (z / 2)) (constant k false) (cube_zero k o z a y) f g
              (either k g.0 (both k (cube_of k (o / 2) (z / 2)) f.0)) g.1 refl (unreached k f.1 g.1));
        }

    module _ (lc : length c ≡ length (low_of h covered)) (lt : length t ≡ length (low_of h twice)) where
      again-sized : SizedBothWord (suc k) o z w (put_low h covered c) (put_low h twice t)
      again-sized =
          record {
            columns = s.columns;
            first = back_length k h covered more half s.first c (lc ∙ low-sized.first);
            second = back_length k h twice more half s.second t (lt ∙ low-sized.second);
            word = s.word;
          }

      added_dash : odd o ≡ false → odd z ≡ false → (c' t' : List ℕ)
          → Added k (o / 2) (z / 2) (high_of h (put_low h covered c)) (high_of h (put_low h twice t)) c' t'
          → Added (suc k) o z covered twice (put_high h (put_low h covered c) c') (put_high h (put_low h twice t) t')
      added_dash a y c' t' b = record { once = once; again = again }
        where
          cube : Fn k
          cube = cube_of k (o / 2) (z / 2)

          u : SizedBothWord (suc k) o z w (put_low h covered c) (put_low h twice t)
          u = again-sized

          once : (f : Fn (suc k)) → covered ≡ words (suc k) f → put_high h (put_low h covered c) c' ≡ words (suc k) (either (suc k) (cube_of (suc k) o z) f)
          once f e =
              high_back k h (put_low h covered c) more half u.first (either k cube f.0, f.1) (low-once f e) c' (either k cube f.1)
              (b.once f.1 (high-words k h (put_low h covered c) more half u.first (either k cube f.0, f.1) (low-once f e))) ∙
              ap (words (suc k))
              (once-halves k o z cube cube (cube-dash k o z a y) f (either k cube f.0) (either k cube f.1) refl refl)

          again : (f g : Fn (suc k)) → covered ≡ words (suc k) f → twice ≡ words (suc k) g
              → put_high h (put_low h twice t) t' ≡ words (suc k) (either (suc k) g (both (suc k) (cube_of (suc k) o z) f))
          again f g e i =
              let x = either k g.0 (both k cube f.0) in
              high_back k h (put_low h twice t) more half u.second (x, g.1) (low_again f g e i) t' (either k g.1 (both k cube f.1))
              (b.again f.1 g.1
              (high-words k h (put_low h covered c) more half u.first (either k cube f.0, f.1) (low-once f e))
              (high-words k h (put_low h twice t) more half u.second (x, g.1) (low_again f g e i))) ∙
              ap (words (suc k))
              (again-halves k o z cube cube (cube-dash k o z a y) f g x (either k g.1 (both k cube f.1)) refl refl)

-- The same of m columns and the m - 1 after the first, as the code has them: the middle is that of the first slice.
module _ (m o z w : ℕ) (covered twice : List ℕ) (more : 6 < m) (s : SizedBothWord m o z w covered twice) {o' z' : ℕ} (ones : o' ≡ o / 2) (zeros : z' ≡ z / 2) where
  abbrev mid : ℕ
  mid = length covered / 2

  from_halves : (P : ℕ → ℕ → ℕ → ℕ → Type 0)
      → ((k : ℕ) → 6 ≤ k → mid ≡ size k → SizedBothWord (suc k) o z w covered twice → P (suc k) k (o / 2) (z / 2)) → P m (m - 1) o' z'
  from_halves P h =
      subst⁻¹ (λ a. P m (m - 1) a z') ones
      (subst⁻¹ (P m (m - 1) (o / 2)) zeros
      (by_suc (λ m k. 6 < m → SizedBothWord m o z w covered twice → P m k (o / 2) (z / 2))
      (λ k l t. let a : 6 ≤ k = omega arith in h k a (middle k (length covered) a t.first) t) m (omega arith) more s))

  pub add_low : SizedBothWord (m - 1) o' z' w (low_of mid covered) (low_of mid twice)
  add_low =
      from_halves (λ m k a b. SizedBothWord k a b w (low_of mid covered) (low_of mid twice))
      (λ k a i t. low-sized k o z w mid covered twice a i t)

  pub add-high : SizedBothWord (m - 1) o' z' w (high_of mid covered) (high_of mid twice)
  add-high =
      from_halves (λ m k a b. SizedBothWord k a b w (high_of mid covered) (high_of mid twice))
      (λ k a i t. high-sized k o z w mid covered twice a i t)

  pub add_one : odd o ≡ true → (c t : List ℕ) → Added (m - 1) o' z' (high_of mid covered) (high_of mid twice) c t
      → Added m o z covered twice (put_high mid covered c) (put_high mid twice t)
  add_one p c t =
      from_halves
      (λ m k a b.
      Added k a b (high_of mid covered) (high_of mid twice) c t →
      Added m o z covered twice (put_high mid covered c) (put_high mid twice t))
      (λ k a i u. added_one k o z w mid covered twice a i u p c t)

  module _ (c t : List ℕ) (d : Added (m - 1) o' z' (low_of mid covered) (low_of mid twice) c t) where
    pub add_zero : odd o ≡ false → odd z ≡ true → Added m o z covered twice (put_low mid covered c) (put_low mid twice t)
    add_zero p q =
        from_halves
        (λ m k a b.
        Added k a b (low_of mid covered) (low_of mid twice) c t →
        Added m o z covered twice (put_low mid covered c) (put_low mid twice t))
        (λ k a i u b. added_zero k o z w mid covered twice a i u c t b p q) d

    module _ (lc : length c ≡ length (low_of mid covered)) (lt : length t ≡ length (low_of mid twice)) where
      pub add-high-after : SizedBothWord (m - 1) o' z' w (high_of mid (put_low mid covered c)) (high_of mid (put_low mid twice t))
      add-high-after =
          from_halves
          (λ m k a b.
          Added k a b (low_of mid covered) (low_of mid twice) c t →
          SizedBothWord k a b w (high_of mid (put_low mid covered c)) (high_of mid (put_low mid twice t)))
          (λ k a i u b.
          high-sized k o z w mid (put_low mid covered c) (put_low mid twice t) a i (again-sized k o z w mid covered twice a i u c t b lc lt)) d

      pub add-dash : odd o ≡ false → odd z ≡ false → (c' t' : List ℕ)
          → Added (m - 1) o' z' (high_of mid (put_low mid covered c)) (high_of mid (put_low mid twice t)) c' t'
          → Added m o z covered twice (put_high mid (put_low mid covered c) c') (put_high mid (put_low mid twice t) t')
      add-dash p q c' t' =
          from_halves
          (λ m k a b.
          Added k a b (low_of mid covered) (low_of mid twice) c t →
          Added k a b (high_of mid (put_low mid covered c)) (high_of mid (put_low mid twice t)) c' t' →
          Added m o z covered twice (put_high mid (put_low mid covered c) c') (put_high mid (put_low mid twice t) t'))
          (λ k a i u b. added_dash k o z w mid covered twice a i u c t b lc lt p q c' t') d
