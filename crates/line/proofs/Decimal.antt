-- Decimal numbers: a number below 100,000 is its tenth's digits and its last one, and has at most five.
use mathlib.Core.Path.{◌≡◌, ap, ◌∙◌}
use mathlib.Core.Bool.{Bool, true, false, cond}
use mathlib.Core.List.{[], ◌∷◌, ◌++◌}
use Prim.Native.Nat.{ℕ, zero, suc, ◌+◌, ◌/◌, ◌%◌, ◌^◌, ◌<◌, ◌≤◌}
use native.Mathlib.Nat.{pow-succ'}
use native.Mathlib.Omega.{arith}
use lib.Dec.{ltb}
use lib.ListN.{length, length-append}
use borrow.Author.Tests.{lt-ltb, le-ltb}
use Rattle.line.specs.Decimal.{digit, decimal_of, decimal}

-- Room for more digits than a number has changes nothing.
pub more_room : (k n : ℕ) → n < 10 ^ suc k → decimal_of k n ≡ decimal_of (suc k) n
unfolding decimal_of
more_room zero n h =
    let b : n < 10 = omega (arith, pow-succ' 10 zero) in
    let e : n % 10 ≡ n = omega arith in
    ap (λ m. digit m ∷ []) e ∙ rw (lt-ltb n 10 b)
more_room (suc k) n h =
    let b : n / 10 < 10 ^ suc k = omega (arith, pow-succ' 10 (suc k)) in
    ap (λ t. cond (ltb n 10) (digit n ∷ []) (t ++ (digit (n % 10) ∷ []))) (more_room k (n / 10) b)

pub decimal_one : (n : ℕ) → n < 10 → decimal n ≡ digit n ∷ []
unfolding decimal decimal_of
decimal_one n h = rw (lt-ltb n 10 h)

pub decimal-more : (n : ℕ) → 10 ≤ n → n < 100000 → decimal n ≡ decimal (n / 10) ++ (digit (n % 10) ∷ [])
unfolding decimal decimal_of
decimal-more n h b =
    let c : n / 10 < 10 ^ 4 = omega arith in
    rw (le-ltb n 10 h) (ap (λ t. t ++ (digit (n % 10) ∷ [])) (more_room 3 (n / 10) c))

length_more : (n : ℕ) → 10 ≤ n → n < 100000 → length (decimal n) ≡ length (decimal (n / 10)) + 1
length_more n h b = ap length (decimal-more n h b) ∙ length-append (decimal (n / 10)) (digit (n % 10) ∷ [])

pub length_one : (n : ℕ) → n < 10 → length (decimal n) ≡ 1
length_one n h = ap length (decimal_one n h)

pub length_two : (n : ℕ) → 10 ≤ n → n < 100 → length (decimal n) ≡ 2
length_two n h b = let b' : n / 10 < 10 = omega arith in omega (arith, length_more n h (omega arith), length_one (n / 10) b')

pub length_three : (n : ℕ) → 100 ≤ n → n < 1000 → length (decimal n) ≡ 3
length_three n h b =
    omega (arith, length_more n (omega arith) (omega arith), length_two (n / 10) (omega arith) (omega arith))

pub length_four : (n : ℕ) → 1000 ≤ n → n < 10000 → length (decimal n) ≡ 4
length_four n h b =
    omega (arith, length_more n (omega arith) (omega arith), length_three (n / 10) (omega arith) (omega arith))

pub length_five : (n : ℕ) → 10000 ≤ n → n < 100000 → length (decimal n) ≡ 5
length_five n h b =
    omega (arith, length_more n (omega arith) (omega arith), length_four (n / 10) (omega arith) (omega arith))

pub length_most : (k n : ℕ) → length (decimal_of k n) ≤ suc k
unfolding decimal_of
length_most zero n = omega arith
length_most (suc k) n = go (ltb n 10) (length_most k (n / 10))
  where
    go : (b : Bool) → length (decimal_of k (n / 10)) ≤ suc k
        → length (cond b (digit n ∷ []) (decimal_of k (n / 10) ++ (digit (n % 10) ∷ []))) ≤ suc (suc k)
    go true h = omega arith
    go false h = omega (arith, length-append (decimal_of k (n / 10)) (digit (n % 10) ∷ []))

pub length-decimal : (n : ℕ) → length (decimal n) ≤ 5
unfolding decimal
length-decimal n = length_most 4 n
