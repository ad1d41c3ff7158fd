-- Laws of tables: how many words one has, the table of both halves, of joined functions and of constants, and that a table
-- tells its function.
use mathlib.Core.Path.{◌≡◌, refl, sym, ap, ap₂, ◌∙◌}
use mathlib.Core.Bool.{Bool, true, false, cond}
use mathlib.Core.List.{List, [], ◌∷◌, ◌++◌}
use mathlib.Core.Logic.{◌⊎◌, inl, inr}
use Prim.Native.Nat.{ℕ, zero, suc, ◌+◌, ◌-◌, ◌*◌, ◌^◌, ◌<◌, ◌≤◌}
use native.Mathlib.Nat.{pow-suc}
use native.Mathlib.Omega.{arith}
use lib.Bits.{bit_and, bit_or}
use lib.Dec.{ltb, lit≤}
use lib.ListN.{length, take, drop, replicate, length-append, replicate-append-replicate}
use lib.Seq.{take_at, drop_at}
use borrow.Author.Tests.{lt-ltb, le-ltb, ltb-true, ltb-false}
use Rattle.rule.specs.Func.{Fn, constant, joined, both, either, less}
use Rattle.words.specs.Word.{num, words, size, wordwise}
use Rattle.words.proofs.Num.{Lifts, num-joined, num_tells, and_lifts, or_lifts, less_lifts, less_word, num_false}

-- Up to six columns, and more than six.
pub few : (m : ℕ) → (m < 6) ⊎ (6 ≤ m)
few m = go (ltb m 6) refl
  where
    go : (b : Bool) → ltb m 6 ≡ b → (m < 6) ⊎ (6 ≤ m)
    go true e = inl (ltb-true m 6 e)
    go false e = inr (ltb-false m 6 e)

pub words-few : (m : ℕ) (f : Fn m) → m ≤ 6 → words m f ≡ num m f ∷ []
unfolding words
words-few zero f h = refl
words-few (suc m) f h = ap (λ b. cond b (num (suc m) f ∷ []) (words m f.0 ++ words m f.1)) (lt-ltb m 6 (omega arith))

-- With more than six columns the table is the halves' tables, one after the other.
pub words-halves : (m : ℕ) (f : Fn (suc m)) → 6 ≤ m → words (suc m) f ≡ words m f.0 ++ words m f.1
unfolding words
words-halves m f h = ap (λ b. cond b (num (suc m) f ∷ []) (words m f.0 ++ words m f.1)) (le-ltb m 6 h)

pub size_few : (m : ℕ) → m ≤ 6 → size m ≡ 1
unfolding size
size_few m h = let e : m - 6 ≡ 0 = omega arith in ap (λ k. 2 ^ k) e

pub size_double : (m : ℕ) → 6 ≤ m → size (suc m) ≡ size m + size m
unfolding size
size_double m h =
    let e : suc m - 6 ≡ suc (m - 6) = omega arith in
    let d : 2 ^ (suc m - 6) ≡ 2 ^ (m - 6) * 2 = ap (λ k. 2 ^ k) e ∙ pow-suc 2 (m - 6) in
    omega arith

-- A law of every table, from words up to six columns and from halves above.
pub by_halves :
    (P : (m : ℕ) → Fn m → Type 0) →
    ((m : ℕ) (f : Fn m) → m ≤ 6 → P m f) →
    ((m : ℕ) (f : Fn (suc m)) → 6 ≤ m → P m f.0 → P m f.1 → P (suc m) f) →
    (m : ℕ) (f : Fn m) → P m f
by_halves P one two zero f = one zero f (lit≤ tt)
by_halves P one two (suc m) f = go (few m) (by_halves P one two m f.0) (by_halves P one two m f.1)
  where
    go : (m < 6) ⊎ (6 ≤ m) → P m f.0 → P m f.1 → P (suc m) f
    go (inl l) a b = one (suc m) f l
    go (inr h) a b = two m f h a b

pub length-words : (m : ℕ) (f : Fn m) → length (words m f) ≡ size m
length-words =
    by_halves (λ m f. length (words m f) ≡ size m)
    (λ m f h. ap length (words-few m f h) ∙ sym (size_few m h))
    (λ m f h a b.
    ap length (words-halves m f h) ∙ length-append (words m f.0) (words m f.1) ∙
    ap₂ ◌+◌ a b ∙ sym (size_double m h))

-- The parts of a list that is two lists one after the other.
pub first_part : {xs : List ℕ} (low high : List ℕ) (h : ℕ) → length low ≡ h → xs ≡ low ++ high → take h xs ≡ low
first_part low high h l e = ap (take h) e ∙ take_at low high h l

pub last_part : {xs : List ℕ} (low high : List ℕ) (h : ℕ) → length low ≡ h → xs ≡ low ++ high → drop h xs ≡ high
last_part low high h l e = ap (drop h) e ∙ drop_at low high h l

-- Equal tables, equal functions.
pub words_tell : (m : ℕ) (f g : Fn m) → words m f ≡ words m g → f ≡ g
words_tell =
    by_halves (λ m f. (g : Fn m) → words m f ≡ words m g → f ≡ g)
    (λ m f h g e. num_tells m f g (head_told (sym (words-few m f h) ∙ e ∙ words-few m g h)))
    (λ m f h a b g e.
    let w : words m f.0 ++ words m f.1 ≡ words m g.0 ++ words m g.1 = sym (words-halves m f h) ∙ e ∙ words-halves m g h in
    let l : words m f.0 ≡ words m g.0 =
    sym (take_at (words m f.0) (words m f.1) (size m) (length-words m f.0)) ∙
    ap (take (size m)) w ∙ take_at (words m g.0) (words m g.1) (size m) (length-words m g.0) in
    let r : words m f.1 ≡ words m g.1 =
    sym (drop_at (words m f.0) (words m f.1) (size m) (length-words m f.0)) ∙
    ap (drop (size m)) w ∙ drop_at (words m g.0) (words m g.1) (size m) (length-words m g.0) in
    λ i. (a g.0 l i, b g.1 r i))
  where
    head_told : {x y : ℕ} → x ∷ [] ≡ y ∷ [] → x ≡ y
    head_told e = cc

-- Lists joined word by word.
pub wordwise_append : (on : ℕ → ℕ → ℕ) (xs us ys vs : List ℕ) → length xs ≡ length us → wordwise on (xs ++ ys) (us ++ vs) ≡ wordwise on xs us ++ wordwise on ys vs
unfolding wordwise
wordwise_append on [] [] ys vs e = refl
wordwise_append on [] (u ∷ us) ys vs e = let z : ⊥ = omega arith in absurd z
wordwise_append on (x ∷ xs) [] ys vs e = let z : ⊥ = omega arith in absurd z
wordwise_append on (x ∷ xs) (u ∷ us) ys vs e = ap (λ l. on x u ∷ l) (wordwise_append on xs us ys vs (omega arith))

-- The table of joined functions is their tables joined word by word.
pub words-joined : {op : Bool → Bool → Bool} {on : ℕ → ℕ → ℕ} → Lifts op on → (m : ℕ) (f g : Fn m) → words m (joined op m f g) ≡ wordwise on (words m f) (words m g)
unfolding wordwise joined
words-joined {op} {on} l =
    by_halves (λ m f. (g : Fn m) → words m (joined op m f g) ≡ wordwise on (words m f) (words m g))
    (λ m f h g.
    words-few m (joined op m f g) h ∙ ap (λ x. x ∷ []) (num-joined l m f g) ∙
    sym (ap₂ (wordwise on) (words-few m f h) (words-few m g h)))
    (λ m f h a b g.
    words-halves m (joined op (suc m) f g) h ∙ ap₂ ◌++◌ (a g.0) (b g.1) ∙
    sym (ap₂ (wordwise on) (words-halves m f h) (words-halves m g h) ∙
    wordwise_append on (words m f.0) (words m g.0) (words m f.1) (words m g.1)
    (length-words m f.0 ∙ sym (length-words m g.0))))

pub words-both : (m : ℕ) (f g : Fn m) → words m (both m f g) ≡ wordwise bit_and (words m f) (words m g)
unfolding both
words-both m f g = words-joined and_lifts m f g

pub words-either : (m : ℕ) (f g : Fn m) → words m (either m f g) ≡ wordwise bit_or (words m f) (words m g)
unfolding either
words-either m f g = words-joined or_lifts m f g

pub words-less : (m : ℕ) (f g : Fn m) → words m (less m f g) ≡ wordwise less_word (words m f) (words m g)
unfolding less
words-less m f g = words-joined less_lifts m f g

-- A table all of whose words are the same: of a word up to six columns, and of a list repeated above.
pub repeat_double : (m w : ℕ) → 6 ≤ m → replicate (size m) w ++ replicate (size m) w ≡ replicate (size (suc m)) w
repeat_double m w h = replicate-append-replicate (size m) (size m) w ∙ ap (λ n. replicate n w) (sym (size_double m h))

pub repeat_few : (m w : ℕ) → m ≤ 6 → replicate (size m) w ≡ w ∷ []
repeat_few m w h = ap (λ n. replicate n w) (size_few m h)

-- The table of a constant has one word over and over: that of a constant of as many columns, six at most.
pub words-constant : (m : ℕ) (b : Bool) (w : ℕ) → (m ≤ 6 → w ≡ num m (constant m b)) → (6 ≤ m → w ≡ num 6 (constant 6 b)) → words m (constant m b) ≡ replicate (size m) w
unfolding constant words
words-constant zero b w p q = ap (λ x. x ∷ []) (sym (p (lit≤ tt))) ∙ sym (repeat_few zero w (lit≤ tt))
words-constant (suc m) b w p q = go (few m) (words-constant m b w)
  where
    go : (m < 6) ⊎ (6 ≤ m)
        → ((m ≤ 6 → w ≡ num m (constant m b)) → (6 ≤ m → w ≡ num 6 (constant 6 b)) → words m (constant m b) ≡ replicate (size m) w)
        → words (suc m) (constant (suc m) b) ≡ replicate (size (suc m)) w
    go (inl l) ih = words-few (suc m) (constant (suc m) b) l ∙ ap (λ x. x ∷ []) (sym (p l)) ∙ sym (repeat_few (suc m) w l)
    go (inr h) ih =
        let s : 6 ≤ suc m = omega arith in
        let t : words m (constant m b) ≡ replicate (size m) w =
        ih (λ l. let e : m ≡ 6 = omega arith in q s ∙ ap (λ n. num n (constant n b)) (sym e)) (λ k. q s) in
        words-halves m (constant (suc m) b) h ∙ ap₂ ◌++◌ t t ∙ repeat_double m w h

pub words_false : (m : ℕ) → words m (constant m false) ≡ replicate (size m) 0
words_false m = words-constant m false 0 (λ h. sym (num_false m)) (λ h. sym (num_false 6))
