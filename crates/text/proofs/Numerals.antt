-- Numbers of up to ten digits: one below ten is one digit, a greater one its tenth's digits and its last one. Below 100,000 they
-- are the numbers of up to five.
use mathlib.Core.Path.{◌≡◌, sym, ap, ◌∙◌, subst}
use mathlib.Core.List.{List, [], ◌∷◌, ◌++◌}
use Prim.Native.Nat.{ℕ, ◌+◌, ◌/◌, ◌%◌, ◌^◌, ◌<◌, ◌≤◌}
use native.Mathlib.Omega.{arith}
use lib.ListN.{length, length-append}
use borrow.Author.Tests.{lt-ltb, le-ltb}
use Rattle.line.specs.Decimal.{digit, decimal_of, decimal}
use Rattle.line.proofs.Decimal.{more_room, length_most}
use Rattle.text.specs.Room.{Put}
use Rattle.text.proofs.Room.{put_then}

pub numeral_one : (n : ℕ) → n < 10 → decimal_of 9 n ≡ digit n ∷ []
unfolding decimal_of
numeral_one n h = rw (lt-ltb n 10 h)

pub numeral-more : (n : ℕ) → 10 ≤ n → n < 4294967296 → decimal_of 9 n ≡ decimal_of 9 (n / 10) ++ (digit (n % 10) ∷ [])
unfolding decimal_of
numeral-more n h b =
    let c : n / 10 < 10 ^ 9 = omega arith in
    rw (le-ltb n 10 h) (ap (λ t. t ++ (digit (n % 10) ∷ [])) (more_room 8 (n / 10) c))

pub numeral-decimal : (n : ℕ) → n < 100000 → decimal_of 9 n ≡ decimal n
unfolding decimal
numeral-decimal n h =
    sym (more_room 8 n (omega arith)) ∙ sym (more_room 7 n (omega arith)) ∙ sym (more_room 6 n (omega arith)) ∙
    sym (more_room 5 n (omega arith)) ∙ sym (more_room 4 n (omega arith))

pub length-numeral : (n : ℕ) → length (decimal_of 9 n) ≤ 10
length-numeral n = length_most 9 n

pub one_digit : (n : ℕ) → n < 10 → length (decimal_of 9 n) ≡ 1
one_digit n h = ap length (numeral_one n h)

pub digit-more : (n : ℕ) → 10 ≤ n → n < 4294967296 → length (decimal_of 9 n) ≡ length (decimal_of 9 (n / 10)) + 1
digit-more n h b = ap length (numeral-more n h b) ∙ length-append (decimal_of 9 (n / 10)) (digit (n % 10) ∷ [])

-- A number's only digit, and its last one.
pub put_one : {room room' : List ℕ} {i r n : ℕ} → n < 10 → Put room i ((48 + n % 10) ∷ []) room' r
    → Put room i (decimal_of 9 n) room' r
unfolding digit
put_one {room} {room'} {i} {r} {n} h p =
    let e : n % 10 ≡ n = omega arith in
    subst (λ w. Put room i w room' r) (ap (λ k. (48 + k) ∷ []) e ∙ sym (numeral_one n h)) p

pub put_last : {room room' room'' : List ℕ} {i r s n : ℕ} → 10 ≤ n → n < 4294967296 → Put room i (decimal_of 9 (n / 10)) room' r
    → Put room' r ((48 + n % 10) ∷ []) room'' s → Put room i (decimal_of 9 n) room'' s
unfolding digit
put_last {room} {room'} {room''} {i} {r} {s} {n} h b p q =
    subst (λ w. Put room i w room'' s) (sym (numeral-more n h b)) (put_then p q)
