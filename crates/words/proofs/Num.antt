-- Laws of words: how large one is, the word of joined functions, and that a word tells its function.
use mathlib.Core.Path.{◌≡◌, refl, sym, ap, ap₂, ◌∙◌, subst}
use mathlib.Core.Bool.{Bool, true, false, ◌&&◌, ◌||◌}
use Prim.Native.Nat.{ℕ, zero, suc, ◌+◌, ◌*◌, ◌/◌, ◌%◌, ◌^◌, ◌<◌, ◌≤◌}
use native.Mathlib.Nat.{pow-suc, two-mul, mul_comm, suc-mul, mul-suc}
use native.Mathlib.Omega.{arith}
use lib.Arith.{digits_lt, digits_div, digits_mod}
use lib.Bits.{bit_and, bit_or, bit_xor, and_block, or_block, xor_block, and_lt}
use lib.Dec.{lit<}
use lib.Pow.{pow-add, pow_mono}
use Rattle.rule.specs.Func.{Fn, constant, joined, but_not, both, either, less}
use Rattle.rule.specs.Point.{bit}
use Rattle.words.specs.Word.{num}

-- Twice the points, the square of the bound.
pub square : (m : ℕ) → 2 ^ (2 ^ suc m) ≡ 2 ^ (2 ^ m) * 2 ^ (2 ^ m)
square m = ap (λ k. 2 ^ k) (pow-suc 2 m ∙ mul_comm (2 ^ m) 2 ∙ two-mul (2 ^ m)) ∙ pow-add 2 (2 ^ m) (2 ^ m)

bit_below : (b : Bool) → bit b < 2 ^ (2 ^ 0)
unfolding bit
bit_below false = lit< tt
bit_below true = lit< tt

-- A word has no bit beyond the last point.
pub num_below : (m : ℕ) (f : Fn m) → num m f < 2 ^ (2 ^ m)
unfolding num
num_below zero f = bit_below f
num_below (suc m) f =
    subst (λ k. num m f.1 * 2 ^ (2 ^ m) + num m f.0 < k) (sym (square m))
    (digits_lt (num_below m f.1) (num_below m f.0))

-- A word of at most six columns is below 2 ^ 64.
pub num-fits : (m : ℕ) (f : Fn m) → m ≤ 6 → num m f < 2 ^ 64
num-fits m f h =
    let p : 2 ^ m ≤ 2 ^ 6 = pow_mono h in
    let q : 2 ^ (2 ^ m) ≤ 2 ^ 64 = pow_mono p in
    omega (arith, num_below m f)

-- The halves of a word are the words of the halves.
pub num-low : (m : ℕ) (f : Fn (suc m)) → num (suc m) f % 2 ^ (2 ^ m) ≡ num m f.0
unfolding num
num-low m f = digits_mod (num m f.1) (num_below m f.0)

pub num-high : (m : ℕ) (f : Fn (suc m)) → num (suc m) f / 2 ^ (2 ^ m) ≡ num m f.1
unfolding num
num-high m f = digits_div (num m f.1) (num_below m f.0)

bit_tells : (a b : Bool) → bit a ≡ bit b → a ≡ b
unfolding bit
bit_tells false false e = refl
bit_tells false true e = let z : ⊥ = omega arith in absurd z
bit_tells true false e = let z : ⊥ = omega arith in absurd z
bit_tells true true e = refl

-- Equal words, equal functions.
pub num_tells : (m : ℕ) (f g : Fn m) → num m f ≡ num m g → f ≡ g
unfolding num
num_tells zero f g e = bit_tells f g e
num_tells (suc m) f g e =
    let l : num m f.0 ≡ num m g.0 = sym (num-low m f) ∙ ap (λ x. x % 2 ^ (2 ^ m)) e ∙ num-low m g in
    let h : num m f.1 ≡ num m g.1 = sym (num-high m f) ∙ ap (λ x. x / 2 ^ (2 ^ m)) e ∙ num-high m g in
    λ i. (num_tells m f.0 g.0 l i, num_tells m f.1 g.1 h i)

-- An operation on words that works on blocks of bits apart and does on one bit what another does on truth values.
pub record Lifts (op : Bool → Bool → Bool) (on : ℕ → ℕ → ℕ) : Type 0 where
  pub block :
      (k a b r s : ℕ) → r < 2 ^ k → s < 2 ^ k → on (a * 2 ^ k + r) (b * 2 ^ k + s) ≡ on a b * 2 ^ k + on r s
  pub bits : (a b : Bool) → on (bit a) (bit b) ≡ bit (op a b)

pub num-joined : {op : Bool → Bool → Bool} {on : ℕ → ℕ → ℕ} → Lifts op on → (m : ℕ) (f g : Fn m) → num m (joined op m f g) ≡ on (num m f) (num m g)
unfolding num joined
num-joined l zero f g = sym (l.bits f g)
num-joined l (suc m) f g =
    ap₂ (λ x y. x * 2 ^ (2 ^ m) + y) (num-joined l m f.1 g.1) (num-joined l m f.0 g.0) ∙
    sym (l.block (2 ^ m) (num m f.1) (num m g.1) (num m f.0) (num m g.0) (num_below m f.0) (num_below m g.0))

and_bits : (a b : Bool) → bit_and (bit a) (bit b) ≡ bit (a && b)
unfolding bit
and_bits false b = refl
and_bits true false = refl
and_bits true true = refl

or_bits : (a b : Bool) → bit_or (bit a) (bit b) ≡ bit (a || b)
unfolding bit
or_bits false b = refl
or_bits true false = refl
or_bits true true = refl

-- First and not second, on words.
abbrev pub less_word : ℕ → ℕ → ℕ
less_word x y = bit_xor x (bit_and x y)

less_bits : (a b : Bool) → less_word (bit a) (bit b) ≡ bit (but_not a b)
unfolding bit but_not
less_bits false b = refl
less_bits true false = refl
less_bits true true = refl

less_block : (k a b r s : ℕ) → r < 2 ^ k → s < 2 ^ k
    → less_word (a * 2 ^ k + r) (b * 2 ^ k + s) ≡ less_word a b * 2 ^ k + less_word r s
less_block k a b r s hr hs =
    ap (bit_xor (a * 2 ^ k + r)) (and_block k a b r s hr hs) ∙
    xor_block k a (bit_and a b) r (bit_and r s) hr (and_lt k r s hr hs)

pub and_lifts : Lifts ◌&&◌ bit_and
and_lifts = record { block = and_block; bits = and_bits }

pub or_lifts : Lifts ◌||◌ bit_or
or_lifts = record { block = or_block; bits = or_bits }

pub less_lifts : Lifts but_not less_word
less_lifts = record { block = less_block; bits = less_bits }

pub num-both : (m : ℕ) (f g : Fn m) → num m (both m f g) ≡ bit_and (num m f) (num m g)
unfolding both
num-both m f g = num-joined and_lifts m f g

pub num-either : (m : ℕ) (f g : Fn m) → num m (either m f g) ≡ bit_or (num m f) (num m g)
unfolding either
num-either m f g = num-joined or_lifts m f g

pub num-less : (m : ℕ) (f g : Fn m) → num m (less m f g) ≡ less_word (num m f) (num m g)
unfolding less
num-less m f g = num-joined less_lifts m f g

-- The words of the constants.
pub num_false : (m : ℕ) → num m (constant m false) ≡ 0
unfolding num constant bit
num_false zero = refl
num_false (suc m) = ap₂ (λ x y. x * 2 ^ (2 ^ m) + y) (num_false m) (num_false m) ∙ omega arith

last_point : (n x : ℕ) → suc x ≡ n → suc (x * n + x) ≡ n * n
last_point n x e =
    subst (λ k. suc (x * k + x) ≡ k * k) e (omega (arith, suc-mul x (suc x), mul-suc x x))

pub num_true : (m : ℕ) → suc (num m (constant m true)) ≡ 2 ^ (2 ^ m)
unfolding num constant bit
num_true zero = refl
num_true (suc m) = last_point (2 ^ (2 ^ m)) (num m (constant m true)) (num_true m) ∙ sym (square m)

-- Only the constant 0 has the word 0.
pub num_zero : (m : ℕ) (f : Fn m) → num m f ≡ 0 → f ≡ constant m false
num_zero m f e = num_tells m f (constant m false) (e ∙ sym (num_false m))
