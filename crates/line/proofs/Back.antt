-- Written lines read back: pieces closed by their byte are those pieces, two words with a blank between are those fields, and a
-- number in decimal is that number.
use mathlib.Core.Path.{◌≡◌, refl, ap, ◌∙◌}
use mathlib.Core.Bool.{Bool, true, false, cond, not}
use mathlib.Core.List.{List, [], ◌∷◌, ◌++◌}
use Rattle.std.specs.Prelude.{Some}
use Prim.Native.Nat.{ℕ, zero, suc, ◌+◌, ◌*◌, ◌-◌, ◌/◌, ◌%◌, ◌^◌, ◌<◌, ◌≤◌}
use native.Mathlib.Nat.{pow-succ'}
use native.Mathlib.Omega.{arith}
use lib.Dec.{leb, ltb}
use lib.ListN.{length, length-append}
use borrow.Author.Tests.{ltb-true, le-leb, ne_eqb, not-true}
use Rattle.rule.proofs.Bools.{and_left, and_right, and_intro}
use Rattle.line.specs.Bytes.{is_newline, is_hash, is_blank, until, put_byte, split, keep, filled, words, fields}
use Rattle.line.specs.Decimal.{all, is_digit, value_after, is_number, number, digit, decimal_of, decimal}
use Rattle.line.proofs.Decimal.{length-decimal}

-- No byte passes a test.
abbrev pub none_of : (ℕ → Bool) → List ℕ → Bool
none_of p l = all (λ b. not (p b)) l

pub all_append : (q : ℕ → Bool) (a b : List ℕ) → all q a ≡ true → all q b ≡ true → all q (a ++ b) ≡ true
unfolding all
all_append q [] b e f = f
all_append q (x ∷ a) b e f =
    and_intro (q x) (all q (a ++ b)) (and_left (q x) (all q a) e) (all_append q a b (and_right (q x) (all q a) e) f)

module _ (p : ℕ → Bool) where
  -- The first byte is none, and neither are the others.
  first-none : (x : ℕ) (l : List ℕ) → none_of p (x ∷ l) ≡ true → (p x ≡ false) × (none_of p l ≡ true)
  unfolding all
  first-none x l e = (not-true (p x) (and_left (not (p x)) (none_of p l) e), and_right (not (p x)) (none_of p l) e)

  pub split_piece : (b : ℕ) → p b ≡ true → (l t : List ℕ) → none_of p l ≡ true → split p (l ++ (b ∷ t)) ≡ l ∷ split p t
  unfolding split put_byte
  split_piece b e [] t f = rw e
  split_piece b e (x ∷ l) t f =
      let g = first-none x l f in
      ap (put_byte (p x) x) (split_piece b e l t g.1) ∙ rw g.0

  pub split-whole : (x : ℕ) (l : List ℕ) → none_of p (x ∷ l) ≡ true → split p (x ∷ l) ≡ (x ∷ l) ∷ []
  unfolding split put_byte
  split-whole x [] f = rw (first-none x [] f).0
  split-whole x (y ∷ l) f =
      let g = first-none x (y ∷ l) f in
      ap (put_byte (p x) x) (split-whole y l g.1) ∙ rw g.0

  pub until-whole : (l : List ℕ) → none_of p l ≡ true → until p l ≡ l
  unfolding until
  until-whole [] f = refl
  until-whole (x ∷ l) f =
      let g = first-none x l f in
      rw g.0 (ap (λ u. x ∷ u) (until-whole l g.1))

-- A word without any byte that has a role.
pub record Solid (l : List ℕ) : Type 0 where
  pub some_byte : 0 < length l
  pub newline : none_of is_newline l ≡ true
  pub hash : none_of is_hash l ≡ true
  pub blank : none_of is_blank l ≡ true

-- Two words with a blank between.
pub pair_newline : (w f : List ℕ) → Solid w → Solid f → none_of is_newline (w ++ (32 ∷ f)) ≡ true
unfolding is_newline all
pair_newline w f a b = all_append (λ c. not (is_newline c)) w (32 ∷ f) a.newline b.newline

pub pair_fields : (w f : List ℕ) → Solid w → Solid f → fields (w ++ (32 ∷ f)) ≡ w ∷ f ∷ []
unfolding fields words filled keep all is_hash is_blank
pair_fields [] f a b = let z : ⊥ = omega (arith, a.some_byte) in absurd z
pair_fields (x ∷ w) [] a b = let z : ⊥ = omega (arith, b.some_byte) in absurd z
pair_fields (x ∷ w) (y ∷ f) a b =
    ap words (until-whole is_hash ((x ∷ w) ++ (32 ∷ y ∷ f)) (all_append (λ c. not (is_hash c)) (x ∷ w) (32 ∷ y ∷ f) a.hash b.hash)) ∙
    ap filled (split_piece is_blank 32 refl (x ∷ w) (y ∷ f) a.blank) ∙
    ap (λ ps. filled ((x ∷ w) ∷ ps)) (split-whole is_blank y f b.blank)

-- The digits of a number.
all-decimal : (q : ℕ → Bool) → ((d : ℕ) → d < 10 → q (digit d) ≡ true) → (k n : ℕ) → all q (decimal_of k n) ≡ true
unfolding all decimal_of
all-decimal q h zero n = and_intro (q (digit (n % 10))) true (h (n % 10) (omega arith)) refl
all-decimal q h (suc k) n = go (ltb n 10) refl (all-decimal q h k (n / 10))
  where
    go : (b : Bool) → ltb n 10 ≡ b → all q (decimal_of k (n / 10)) ≡ true
        → all q (cond b (digit n ∷ []) (decimal_of k (n / 10) ++ (digit (n % 10) ∷ []))) ≡ true
    go true e r = and_intro (q (digit n)) true (h n (ltb-true n 10 e)) refl
    go false e r =
        all_append q (decimal_of k (n / 10)) (digit (n % 10) ∷ []) r
        (and_intro (q (digit (n % 10))) true (h (n % 10) (omega arith)) refl)

some-digit : (k n : ℕ) → 1 ≤ length (decimal_of k n)
unfolding decimal_of
some-digit zero n = omega arith
some-digit (suc k) n = go (ltb n 10)
  where
    go : (b : Bool) → 1 ≤ length (cond b (digit n ∷ []) (decimal_of k (n / 10) ++ (digit (n % 10) ∷ [])))
    go true = omega arith
    go false = omega (arith, length-append (decimal_of k (n / 10)) (digit (n % 10) ∷ []))

pub solid_decimal : (n : ℕ) → Solid (decimal n)
unfolding decimal digit is_newline is_hash is_blank
solid_decimal n =
    record {
      some_byte = some-digit 4 n;
      newline = all-decimal (λ b. not (is_newline b)) (λ d h. rw (ne_eqb (48 + d) 10 (λ e. omega arith))) 4 n;
      hash = all-decimal (λ b. not (is_hash b)) (λ d h. rw (ne_eqb (48 + d) 35 (λ e. omega arith))) 4 n;
      blank =
          all-decimal (λ b. not (is_blank b))
          (λ d h. rw (ne_eqb (48 + d) 32 (λ e. omega arith)) (rw (ne_eqb (48 + d) 9 (λ e. omega arith)))) 4 n;
    }

value_append : (v : ℕ) (a b : List ℕ) → value_after v (a ++ b) ≡ value_after (value_after v a) b
unfolding value_after
value_append v [] b = refl
value_append v (x ∷ a) b = value_append (10 * v + (x - 48)) a b

value_decimal : (k n : ℕ) → n < 10 ^ suc k → value_after 0 (decimal_of k n) ≡ n
unfolding value_after decimal_of digit
value_decimal zero n h = omega (arith, pow-succ' 10 zero)
value_decimal (suc k) n h =
    let b : n / 10 < 10 ^ suc k = omega (arith, pow-succ' 10 (suc k)) in
    go (ltb n 10) refl (value_decimal k (n / 10) b)
  where
    go : (b : Bool) → ltb n 10 ≡ b → value_after 0 (decimal_of k (n / 10)) ≡ n / 10
        → value_after 0 (cond b (digit n ∷ []) (decimal_of k (n / 10) ++ (digit (n % 10) ∷ []))) ≡ n
    go true e r = omega arith
    go false e r = value_append 0 (decimal_of k (n / 10)) (digit (n % 10) ∷ []) ∙ omega arith

pub number-decimal : (n : ℕ) → n < 100000 → number (decimal n) ≡ Some n
unfolding number is_number decimal digit is_digit
number-decimal n h =
    let d : all is_digit (decimal_of 4 n) ≡ true =
    all-decimal is_digit
    (λ i b. and_intro (leb 48 (48 + i)) (leb (48 + i) 57) (le-leb 48 (48 + i) (omega arith)) (le-leb (48 + i) 57 (omega arith))) 4 n
    in
    let s : length (decimal_of 4 n) ≤ 5 = length-decimal n in
    rw (le-leb 1 (length (decimal_of 4 n)) (some-digit 4 n)) (rw (le-leb (length (decimal_of 4 n)) 5 s)
    (rw d (ap Some (value_decimal 4 n h))))
