-- The checker's four faults as searches in tables: what the answer r of each search says of the list.
use mathlib.Core.Path.{◌≡◌, sym, ap, ◌∙◌}
use mathlib.Core.Bool.{true}
use mathlib.Core.List.{List, ◌∷◌}
use Prim.Native.Nat.{ℕ, ◌^◌, ◌<◌}
use lib.Bits.{bit_xor}
use lib.Dec.{eqb}
use lib.ListN.{length}
use Rattle.rule.specs.Func.{Fn, constant, both, less, within}
use Rattle.rule.specs.Point.{smallest}
use Rattle.rule.specs.Cube.{Cube, cube_fn, covered, has_literal, without_literal, cube_at, without}
use Rattle.rule.specs.Number.{signs_from, apart}
use Rattle.words.specs.Word.{words, cube_of, found_number}
use Rattle.words.specs.Faults.{covered_twice}
use Rattle.words.specs.Contract.{FirstIn, Added}
use Rattle.words.proofs.Answers.{within-answer, both_outside, both-dashes}
use Rattle.words.proofs.Spare.{spare-answer}
use Rattle.words.proofs.Turned.{literal-answer, turned-number}

-- Cubes are added before those that are there: the tables of a list from its last cube to its first.
pub covered_more : (m o z : ℕ) (cs : List Cube) {c t c' t' : List ℕ} → Added m o z c t c' t' → c ≡ words m (covered m cs)
    → c' ≡ words m (covered m (signs_from m o z ∷ cs))
unfolding covered
covered_more m o z cs a e = a.once (covered m cs) e

pub twice-more : (m o z : ℕ) (cs : List Cube) {c t c' t' : List ℕ} → Added m o z c t c' t' → c ≡ words m (covered m cs)
    → t ≡ words m (covered_twice m cs) → t' ≡ words m (covered_twice m (signs_from m o z ∷ cs))
unfolding covered_twice
twice-more m o z cs a e d = a.again (covered m cs) (covered_twice m cs) e d

-- (a) The cube among the points outside U: what of it is outside, and whether it lies within.
pub off-point : (m o z : ℕ) (U : Fn m) {xs : List ℕ} {r : ℕ} → FirstIn m o z xs r → xs ≡ words m (less m (constant m true) U)
    → r ≡ found_number (smallest m (less m (cube_of m o z) U))
off-point m o z U a e =
    a.found (less m (constant m true) U) e ∙ ap (λ f. found_number (smallest m f)) (both_outside m (cube_of m o z) U)

pub off-answer : (m o z : ℕ) (U : Fn m) {xs : List ℕ} {r : ℕ} → FirstIn m o z xs r → xs ≡ words m (less m (constant m true) U)
    → within m (cube_of m o z) U ≡ eqb r 0
off-answer m o z U a e = within-answer m (cube_of m o z) U ∙ ap (λ n. eqb n 0) (sym (off-point m o z U a e))

-- (b) The cube without literals in a table: the table's smallest point.
pub first_point : (m : ℕ) (f : Fn m) {xs : List ℕ} {r : ℕ} → FirstIn m 0 0 xs r → xs ≡ words m f → r ≡ found_number (smallest m f)
first_point m f a e = a.found f e ∙ ap (λ g. found_number (smallest m g)) (both-dashes m f)

-- (c) The cube with the bit of column k changed in both halves, among the points outside U: whether the literal can go.
pub literal_search : (m o z k : ℕ) (U : Fn m) {xs : List ℕ} {r : ℕ} → FirstIn m (bit_xor o (2 ^ k)) (bit_xor z (2 ^ k)) xs r
    → xs ≡ words m (less m (constant m true) U) → has_literal (signs_from m o z) k ≡ true → apart m o z ≡ true
    → within m (cube_of m o z) U ≡ true → within m (cube_fn m (without_literal (signs_from m o z) k)) U ≡ eqb r 0
literal_search m o z k U a e l w good =
    literal-answer m U (signs_from m o z) k l good ∙
    ap (λ n. eqb n 0)
    (sym (off-point m (bit_xor o (2 ^ k)) (bit_xor z (2 ^ k)) U a e ∙
    ap (λ c. found_number (smallest m (less m (cube_fn m c) U))) (turned-number m k o z l w)))

-- (d) The cube among the on points that are not covered twice: whether the cube can go.
pub spare_search : (m o z i : ℕ) (L : Fn m) (cs : List Cube) {xs : List ℕ} {r : ℕ} → FirstIn m o z xs r
    → xs ≡ words m (less m L (covered_twice m cs)) → i < length cs → signs_from m o z ≡ cube_at cs i
    → within m L (covered m cs) ≡ true → within m L (covered m (without cs i)) ≡ eqb r 0
spare_search m o z i L cs a e h c w =
    spare-answer m L cs i h w ∙
    ap (λ n. eqb n 0)
    (sym (a.found (less m L (covered_twice m cs)) e ∙
    ap (λ d. found_number (smallest m (both m (cube_fn m d) (less m L (covered_twice m cs))))) c))
