-- Numbers read digit by digit: what is left of a field gives the whole answer.
use mathlib.Core.Path.{◌≡◌, sym, ap, ◌∙◌}
use mathlib.Core.Bool.{true, false, cond}
use mathlib.Core.List.{List}
use mathlib.Core.Logic.{◌⊎◌, inl, inr}
use Rattle.std.specs.Prelude.{Option, Some, None}
use Prim.Native.Nat.{ℕ, ◌+◌, ◌*◌, ◌-◌, ◌^◌, ◌<◌, ◌≤◌}
use native.Mathlib.Nat.{pow-succ', pow-le-pow_right}
use native.Mathlib.Numerals.{add-one}
use native.Mathlib.Omega.{arith}
use lib.Dec.{lit<, leb}
use lib.ListN.{length, get_or, drop, drop_of_length-le}
use lib.Seq.{drop-cons}
use borrow.Author.Tests.{le-leb, lt-leb, leb-true}
use Rattle.rule.proofs.Bools.{and_right}
use Rattle.line.specs.Decimal.{all, is_digit, value_after, is_number, number}

-- The number of digits that follow others of value v, if all of them are digits.
unfoldable pub number_after : ℕ → List ℕ → Option ℕ
number_after v s = cond (all is_digit s) (Some (value_after v s)) None

module _ (f : List ℕ) where
  pub wrong_length : (length f < 1) ⊎ (5 < length f) → None ≡ number f
  unfolding number is_number
  wrong_length (inl h) = rw (lt-leb 1 (length f) h)
  wrong_length (inr h) = rw (le-leb 1 (length f) (omega arith)) (rw (lt-leb (length f) 5 h))

  pub number-after : 1 ≤ length f → length f ≤ 5 → number_after 0 f ≡ number f
  unfolding number is_number number_after
  number-after l h = rw (le-leb 1 (length f) l) (rw (le-leb (length f) 5 h))

  module _ (v j : ℕ) where
    pub no_digit : j < length f → is_digit (get_or f j 0) ≡ false → number_after v (drop j f) ≡ None
    unfolding number_after all
    no_digit h e = ap (number_after v) (drop-cons f j 0 h) ∙ rw e

    pub a_digit : j < length f → is_digit (get_or f j 0) ≡ true
        → number_after v (drop j f) ≡ number_after (10 * v + (get_or f j 0 - 48)) (drop (j + 1) f)
    unfolding number_after value_after all
    a_digit h e =
        ap (number_after v) (drop-cons f j 0 h) ∙
        rw e (ap (λ k. number_after (10 * v + (get_or f j 0 - 48)) (drop k f)) (sym (add-one j)))

    pub last_digit : length f ≤ j → number_after v (drop j f) ≡ Some v
    unfolding number_after value_after all
    last_digit h = ap (number_after v) (drop_of_length-le f h)

-- A digit's value.
pub digit_bound : (b : ℕ) → is_digit b ≡ true → b - 48 ≤ 9
unfolding is_digit
digit_bound b e = let h = leb-true b 57 (and_right (leb 48 b) (leb b 57) e) in omega arith

-- A digit more keeps the value below the next power of ten.
pub more-digits : (v j d : ℕ) → v < 10 ^ j → d ≤ 9 → 10 * v + d < 10 ^ (j + 1)
more-digits v j d h k = rw (add-one j) (omega (arith, pow-succ' 10 j))

pub five_digits : (v j : ℕ) → v < 10 ^ j → j ≤ 5 → v < 100000
five_digits v j h k = let p : 10 ^ j ≤ 10 ^ 5 = pow-le-pow_right (lit< tt) k in omega arith
