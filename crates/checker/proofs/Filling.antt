-- Tables filled from a root. A constant's table is known; any other number is a record or stands above one, so a column is left,
-- and the tables of its halves at the next column make its own: packed into a word, or one after the other in a slice.
use mathlib.Core.Path.{◌≡◌, sym, ap, ◌∙◌, subst}
use mathlib.Core.Bool.{Bool, true, false}
use mathlib.Core.List.{List, ◌++◌}
use mathlib.Core.Logic.{◌⊎◌, inl, inr}
use Prim.Native.Nat.{ℕ, zero, suc, ◌+◌, ◌-◌, ◌/◌, ◌<◌, ◌≤◌}
use native.Mathlib.Omega.{arith}
use lib.Dec.{eqb}
use lib.ListN.{length, take, drop, set}
use borrow.Author.Tests.{eqb-true, eqb-false}
use Rattle.rule.specs.Func.{constant}
use Rattle.rule.proofs.Bools.{which}
use Rattle.graph.specs.Table.{Table, table_of, half_of, fn_of, refers}
use Rattle.graph.specs.Sound.{Rooted}
use Rattle.graph.proofs.Numbers.{end_constant, fn_zero, fn_one}
use Rattle.graph.proofs.Columns.{root-next}
use Rattle.words.specs.Word.{num, words, size}
use Rattle.words.specs.Contract.{ConstantWord, Packed}
use Rattle.words.proofs.Halves.{middle, low-length, high-length, back_length, stored-word, filled-halves}
use Rattle.words.proofs.Tables.{size_few}
use Rattle.checker.specs.Contract.{RootWord, RootTable}

-- The function of a constant.
fn_constant : (T : Table) (k m x : ℕ) → x < 2 → fn_of T k m x ≡ constant m (eqb x 1)
fn_constant T k m x h = go (which (eqb x 1))
  where
    go : (eqb x 1 ≡ true) ⊎ (eqb x 1 ≡ false) → fn_of T k m x ≡ constant m (eqb x 1)
    go (inl e) = ap (fn_of T k m) (eqb-true x 1 e) ∙ fn_one T k m ∙ ap (constant m) (sym e)
    go (inr e) =
        let d = eqb-false x 1 e in
        let z : x ≡ 0 = omega arith in
        ap (fn_of T k m) z ∙ fn_zero T k m ∙ ap (constant m) (sym e)

-- The word, and the table, of a number over the columns from k to the last.
abbrev pub WordOf : ℕ → Table → ℕ → ℕ → ℕ → Type 0
WordOf n T k x r = (m : ℕ) → k + m ≡ n → r ≡ num m (fn_of T k m x)

abbrev pub TableOf : ℕ → Table → ℕ → ℕ → List ℕ → Type 0
TableOf n T k x s = (m : ℕ) → k + m ≡ n → s ≡ words m (fn_of T k m x)

module _ (n c : ℕ) (v l h : List ℕ) (k x : ℕ) where
  -- A number that is no constant has a column left.
  pub not_end : Rooted n c v l h k x → 2 ≤ x → k ≡ n → ⊥
  not_end r t e =
      let small = end_constant n (table_of v l h) c x r.sound.good (subst (λ j. refers (table_of v l h) c j x ≡ true) e r.number) in
      omega (arith, small)

  pub column-left : Rooted n c v l h k x → 2 ≤ x → k < n
  column-left r t = let d = not_end r t in omega (arith, r.column)

  pub word-constant : (r : ℕ) → RootWord n c v l h k x → x < 2 → ConstantWord (n - k) (eqb x 1) r → WordOf n (table_of v l h) k x r
  word-constant r p small w m s =
      let e : n - k ≡ m = omega arith in
      let f : n - k ≤ 6 = omega (arith, p.few) in
      subst (λ j. r ≡ num j (constant j (eqb x 1))) e (w.few f) ∙ ap (num m) (sym (fn_constant (table_of v l h) k m x small))

  pub word_next : RootWord n c v l h k x → 2 ≤ x → (d : Bool) (y : ℕ) → y ≡ half_of (table_of v l h) k d x → RootWord n c v l h (k + 1) y
  word_next p t d y e = record { root = root-next p.root (not_end p.root t) d y e; few = omega (arith, p.few) }

  pub word_packed : RootWord n c v l h k x → 2 ≤ x → (y0 y1 r0 r1 r : ℕ) → y0 ≡ half_of (table_of v l h) k false x → y1 ≡ half_of (table_of v l h) k true x
      → WordOf n (table_of v l h) (k + 1) y0 r0 → WordOf n (table_of v l h) (k + 1) y1 r1 → Packed (n - k - 1) r0 r1 r
      → WordOf n (table_of v l h) k x r
  unfolding fn_of
  word_packed p t y0 y1 r0 r1 r e0 e1 w0 w1 q zero s = let e : k ≡ n = omega arith in absurd (not_end p.root t e)
  word_packed p t y0 y1 r0 r1 r e0 e1 w0 w1 q (suc m) s =
      let e : n - k - 1 ≡ m = omega arith in
      let T = table_of v l h in
      (subst (λ j. Packed j r0 r1 r) e q).word (fn_of T (k + 1) m (half_of T k false x)) (fn_of T (k + 1) m (half_of T k true x))
      (w0 m (omega arith) ∙ ap (λ y. num m (fn_of T (k + 1) m y)) e0) (w1 m (omega arith) ∙ ap (λ y. num m (fn_of T (k + 1) m y)) e1)

  pub table-constant : (s : List ℕ) → Rooted n c v l h k x → x < 2 → s ≡ words (n - k) (constant (n - k) (eqb x 1)) → TableOf n (table_of v l h) k x s
  table-constant s p small q m u =
      let e : n - k ≡ m = omega arith in
      subst (λ j. s ≡ words j (constant j (eqb x 1))) e q ∙ ap (words m) (sym (fn_constant (table_of v l h) k m x small))

  pub table-word : (s : List ℕ) → RootTable n c v l h k x s → n - k ≤ 6 → (w : ℕ) → WordOf n (table_of v l h) k x w → TableOf n (table_of v l h) k x (set s 0 w)
  table-word s p f w q m u =
      let e : n - k ≡ m = omega arith in
      stored-word m w s (fn_of (table_of v l h) k m x) (omega arith) (p.long ∙ ap size e) (q m u)

  pub word_held : (s : List ℕ) → RootTable n c v l h k x s → n - k ≤ 6 → 0 < length s
  word_held s p f = omega (arith, p.long, size_few (n - k) f)

  -- The halves of a slice, where more than six columns are left.
  module _ (s : List ℕ) (p : RootTable n c v l h k x s) (t : 2 ≤ x) (more : 6 < n - k) where
    long : length s ≡ size (suc (n - (k + 1)))
    long = let e : n - k ≡ suc (n - (k + 1)) = omega arith in p.long ∙ ap size e

    left : 6 ≤ n - (k + 1)
    left = omega arith

    half : length s / 2 ≡ size (n - (k + 1))
    half = middle (n - (k + 1)) (length s) left long

    pub table-low : (y : ℕ) → y ≡ half_of (table_of v l h) k false x → RootTable n c v l h (k + 1) y (take (length s / 2) s)
    table-low y e =
        record {
          root = root-next p.root (not_end p.root t) false y e;
          long = low-length (n - (k + 1)) (length s / 2) s left half long;
        }

    module _ (ys : List ℕ) (kept : length ys ≡ length (take (length s / 2) s)) where
      back_long : length (ys ++ drop (length s / 2) s) ≡ size (suc (n - (k + 1)))
      back_long =
          back_length (n - (k + 1)) (length s / 2) s left half long ys (kept ∙ low-length (n - (k + 1)) (length s / 2) s left half long)

      pub table-high : (y : ℕ) → y ≡ half_of (table_of v l h) k true x
          → RootTable n c v l h (k + 1) y (take (length (ys ++ drop (length s / 2) s) - length s / 2) (drop (length s / 2) (ys ++ drop (length s / 2) s)))
      table-high y e =
          record {
            root = root-next p.root (not_end p.root t) true y e;
            long = high-length (n - (k + 1)) (length s / 2) (ys ++ drop (length s / 2) s) left half back_long;
          }

      pub table_filled : (zs : List ℕ) (y0 y1 : ℕ) → y0 ≡ half_of (table_of v l h) k false x → y1 ≡ half_of (table_of v l h) k true x
          → TableOf n (table_of v l h) (k + 1) y0 ys → TableOf n (table_of v l h) (k + 1) y1 zs
          → TableOf n (table_of v l h) k x (take (length s / 2) (ys ++ drop (length s / 2) s) ++ (zs ++ drop (length (ys ++ drop (length s / 2) s) - length s / 2) (drop (length s / 2) (ys ++ drop (length s / 2) s))))
      unfolding fn_of
      table_filled zs y0 y1 e0 e1 w0 w1 zero u = let e : k ≡ n = omega arith in absurd (not_end p.root t e)
      table_filled zs y0 y1 e0 e1 w0 w1 (suc m) u =
          let T = table_of v l h in
          let e : n - (k + 1) ≡ m = omega arith in
          filled-halves m (length s / 2) s ys zs (fn_of T (k + 1) m (half_of T k false x)) (fn_of T (k + 1) m (half_of T k true x))
          (omega arith) (half ∙ ap size e) (long ∙ ap (λ j. size (suc j)) e)
          (w0 m (omega arith) ∙ ap (λ y. words m (fn_of T (k + 1) m y)) e0) (w1 m (omega arith) ∙ ap (λ y. words m (fn_of T (k + 1) m y)) e1)
