-- What the loops over whole tables leave, said of the functions whose tables they were.
use mathlib.Core.Path.{◌≡◌, sym, ap, ap₂, ◌∙◌}
use mathlib.Core.Bool.{true}
use mathlib.Core.List.{List}
use Prim.Native.Nat.{ℕ, ◌<◌, ◌≤◌}
use native.Mathlib.Omega.{arith}
use lib.Bits.{bit_and, bit_or}
use lib.ListN.{length, get_or, replicate, length-replicate, get_or-replicate}
use Rattle.rule.specs.Func.{constant}
use Rattle.words.specs.Word.{size, wordwise}
use Rattle.words.specs.Contract.{ConstantWord, Lessened, Outside}
use Rattle.words.proofs.Num.{less_word}
use Rattle.words.proofs.Tables.{words-less}
use Rattle.words.proofs.Loops.{SoFar, so_far_end, length-wordwise, get_d_wordwise}

-- One table less another, joined word by word.
pub lessened : (xs ys : List ℕ) {now : List ℕ} → now ≡ wordwise less_word xs ys → Lessened xs ys now
lessened xs ys e =
    record { table = λ m f g p q. e ∙ ap₂ (wordwise less_word) p q ∙ sym (words-less m f g) }

-- A word against each word of a list.
pub each_word : (w : ℕ) (xs : List ℕ) (k : ℕ) → k < length xs → get_or (replicate (length xs) w) k 0 ≡ w
each_word w xs k h = get_or-replicate (length xs) k w 0 h

pub added_once : (w : ℕ) (old : List ℕ) {now : List ℕ} {i : ℕ} → SoFar (λ k. bit_or w (get_or old k 0)) old now i → length old ≤ i
    → now ≡ wordwise bit_or (replicate (length old) w) old
added_once w old s h =
    let r : length (replicate (length old) w) ≡ length old = length-replicate (length old) w in
    so_far_end s h (wordwise bit_or (replicate (length old) w) old)
    (length-wordwise bit_or (replicate (length old) w) old r ∙ r)
    (λ k l.
    let b : k < length (replicate (length old) w) = omega arith in
    ap (λ x. bit_or x (get_or old k 0)) (sym (each_word w old k l)) ∙
    sym (get_d_wordwise bit_or (replicate (length old) w) old k r b))

pub added_again : (w : ℕ) (covered old : List ℕ) {now : List ℕ} {i : ℕ}
    → SoFar (λ k. bit_or (get_or old k 0) (bit_and w (get_or covered k 0))) old now i → length covered ≤ i → length old ≡ length covered
    → now ≡ wordwise bit_or old (wordwise bit_and (replicate (length covered) w) covered)
added_again w covered old {i = i} s h e =
    let r : length (replicate (length covered) w) ≡ length covered = length-replicate (length covered) w in
    let q : length (wordwise bit_and (replicate (length covered) w) covered) ≡ length covered =
    length-wordwise bit_and (replicate (length covered) w) covered r ∙ r in
    let t : length old ≡ length (wordwise bit_and (replicate (length covered) w) covered) = e ∙ sym q in
    let d : length old ≤ i = omega arith in
    so_far_end s d (wordwise bit_or old (wordwise bit_and (replicate (length covered) w) covered))
    (length-wordwise bit_or old (wordwise bit_and (replicate (length covered) w) covered) t)
    (λ k l.
    let a : k < length covered = omega arith in
    let b : k < length (replicate (length covered) w) = omega arith in
    ap (λ x. bit_or (get_or old k 0) (bit_and x (get_or covered k 0))) (sym (each_word w covered k a)) ∙
    ap (bit_or (get_or old k 0)) (sym (get_d_wordwise bit_and (replicate (length covered) w) covered k r b)) ∙
    sym (get_d_wordwise bit_or old (wordwise bit_and (replicate (length covered) w) covered) k t l))

-- Every point less a table: one word less each word.
pub outside_end : (m w : ℕ) (old : List ℕ) {now : List ℕ} {i : ℕ} → ConstantWord m true w → length old ≡ size m
    → SoFar (λ k. less_word w (get_or old k 0)) old now i → length old ≤ i → Outside m old now
outside_end m w old {now} c l s h =
    let r : length (replicate (length old) w) ≡ length old = length-replicate (length old) w in
    let e : now ≡ wordwise less_word (replicate (length old) w) old =
    so_far_end s h (wordwise less_word (replicate (length old) w) old)
    (length-wordwise less_word (replicate (length old) w) old r ∙ r)
    (λ k b.
    let q : k < length (replicate (length old) w) = omega arith in
    ap (λ x. less_word x (get_or old k 0)) (sym (each_word w old k b)) ∙
    sym (get_d_wordwise less_word (replicate (length old) w) old k r q)) in
    record {
      table = λ f p.
          e ∙ ap₂ (wordwise less_word) (ap (λ n. replicate n w) l ∙ sym c.table) p ∙ sym (words-less m (constant m true) f);
    }
