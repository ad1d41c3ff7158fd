-- Written text: its parts put one after the other, its length, and the first refusal.
use mathlib.Core.Path.{◌≡◌, refl, sym, ap, ap₂, ◌∙◌}
use mathlib.Core.Bool.{Bool, true, false, cond, ◌&&◌}
use mathlib.Core.List.{List, [], ◌∷◌, ◌++◌, map}
use mathlib.Core.Logic.{◌≢◌}
use Prim.Native.Nat.{ℕ, zero, suc, ◌+◌, ◌*◌, ◌-◌, ◌/◌, ◌<◌, ◌≤◌}
use native.Mathlib.Nat.{mul-le-mul}
use native.Mathlib.Numerals.{add-one}
use native.Mathlib.Omega.{arith}
use lib.Dec.{eqb, leb, eqb-suc-zero}
use lib.ListN.{length, get_or, drop, length-append, length-map, drop_of_length-le}
use lib.Seq.{sets, drop-cons}
use borrow.Author.Tests.{le-leb, lt-leb, eq-eqb, ne_eqb, leb-true}
use Rattle.std.specs.Prelude.{Result, Ok, Err}
use Rattle.rule.specs.Point.{odd}
use Rattle.rule.specs.Number.{sign_of, signs_from, signs, first_malformed}
use Rattle.rule.specs.Refusal.{first_broken, refusal_of}
use Rattle.rule.specs.declared.refusal.Refusal.{Refusal}
use Rattle.rule.specs.declared.refusal.Refusal.TheVariants.{ColumnsOver, ListOver, CubeMalformed, TextLacks}
use Rattle.rule.specs.declared.refusal.Refused.{Refused}
use Rattle.rule.proofs.Number.{length-signs}
use Rattle.rule.proofs.Bools.{and_right}
use Rattle.rule.proofs.Refusals.{first_named}
use Rattle.line.specs.Bytes.{bytes}
use Rattle.line.specs.Decimal.{decimal, decimal_of}
use Rattle.text.specs.Room.{cleared, padded, Put}
use Rattle.text.specs.Writing.{sign_byte, row_text, rows_text, joined, text_parts, list_text, write_conditions, write_returns, answer_by, write_answer, numbers_of, numbers_for, room_by, room_written, Wrote, Writable}
use Rattle.text.proofs.Room.{Left, all_left, first_fits, left-put, none_left, cleared-padded}
use Rattle.text.proofs.Numerals.{numeral-decimal}

-- The bytes of some columns' signs.
abbrev pub sign_bytes : ℕ → ℕ → ℕ → List ℕ
sign_bytes n o z = map sign_byte (signs_from n o z)

pub length_sign_bytes : (n o z : ℕ) → length (sign_bytes n o z) ≡ n
unfolding signs_from
length_sign_bytes zero o z = refl
length_sign_bytes (suc n) o z = ap suc (length_sign_bytes n (o / 2) (z / 2))

-- One column and the others: at first all are left, and then one less.
first_sign : (left o z : ℕ) → 0 < left
    → sign_bytes left o z ≡ (sign_byte (sign_of (odd o) (odd z)) ∷ []) ++ sign_bytes (left - 1) (o / 2) (z / 2)
unfolding signs_from
first_sign zero o z h = let x : ⊥ = omega arith in absurd x
first_sign (suc m) o z h =
    let k : m ≡ suc m - 1 = omega arith in
    ap (λ l. sign_byte (sign_of (odd o) (odd z)) ∷ sign_bytes l (o / 2) (z / 2)) k

pub all_signs : (room : List ℕ) (i n o z : ℕ) → i + n ≤ length room
    → Left room i (sign_bytes n o z) room i (sign_bytes (n - 0) o z)
all_signs room i n o z h =
    let k : n - 0 ≡ n = omega arith in
    rw k (all_left room i (sign_bytes n o z) (omega (arith, length_sign_bytes n o z)))

pub sign_fits : {room whole room' : List ℕ} {i r : ℕ} → (left o z : ℕ) → Left room i whole room' r (sign_bytes left o z)
    → 0 < left → r < length room'
sign_fits left o z l h = omega (arith, l.fits, length_sign_bytes left o z)

pub sign_put : {room whole room' room'' : List ℕ} {i r s b : ℕ} → (left o z k : ℕ)
    → Left room i whole room' r (sign_bytes left o z) → Put room' r (b ∷ []) room'' s → b ≡ sign_byte (sign_of (odd o) (odd z))
    → left ≡ k + 1 → Left room i whole room'' s (sign_bytes k (o / 2) (z / 2))
sign_put {room} {whole} {room'} {room''} {i} {r} {s} left o z k l p e f =
    let g : left - 1 ≡ k = omega arith in
    let q : Put room' r (sign_byte (sign_of (odd o) (odd z)) ∷ []) room'' s = rw e at p in
    let t : Left room i whole room'' s (sign_bytes (left - 1) (o / 2) (z / 2)) =
    left-put (sign_bytes (left - 1) (o / 2) (z / 2)) (rw (first_sign left o z (omega arith)) at l) q
    in
    rw g at t

pub no_sign : {room whole room' : List ℕ} {i r : ℕ} → (left o z : ℕ) → Left room i whole room' r (sign_bytes left o z)
    → left ≡ 0 → Put room i whole room' r
unfolding signs_from
no_sign left o z l e = none_left (rw e at l)

-- The length of a row and of rows.
pub length-row : (n x : ℕ) → length (row_text (signs n x)) ≡ n + 3
unfolding row_text bytes
length-row n x =
    length-append (map sign_byte (signs n x)) (bytes " 1\n") ∙
    ap (λ k. k + 3) (length-map (signs n x) sign_byte ∙ length-signs n x)

pub length-rows : (n : ℕ) (xs : List ℕ) → length (rows_text n xs) ≡ length xs * (n + 3)
unfolding rows_text
length-rows n [] = sym (native.Mathlib.Nat.zero-mul (n + 3))
length-rows n (x ∷ xs) =
    length-append (row_text (signs n x)) (rows_text n xs) ∙ ap₂ ◌+◌ (length-row n x) (length-rows n xs) ∙
    native.Mathlib.Nat.add_comm (n + 3) (length xs * (n + 3)) ∙ sym (native.Mathlib.Nat.suc-mul (length xs) (n + 3))

-- One row and the others, and no row.
module _ {room whole room' : List ℕ} {i r : ℕ} (n : ℕ) (xs : List ℕ) (j : ℕ)
    (l : Left room i whole room' r (rows_text n (drop j xs))) where
  first_row : j < length xs → Left room i whole room' r (row_text (signs n (get_or xs j 0)) ++ rows_text n (drop (j + 1) xs))
  unfolding rows_text
  first_row h =
      let e : rows_text n (drop j xs) ≡ row_text (signs n (get_or xs j 0)) ++ rows_text n (drop (j + 1) xs) =
      ap (rows_text n) (drop-cons xs j 0 h) ∙
      ap (λ k. row_text (signs n (get_or xs j 0)) ++ rows_text n (drop k xs)) (sym (add-one j))
      in
      rw e at l

  pub row_fits : j < length xs → r + length (row_text (signs n (get_or xs j 0))) ≤ length room'
  row_fits h = first_fits (row_text (signs n (get_or xs j 0))) (rows_text n (drop (j + 1) xs)) (first_row h)

  pub row_put : {room'' : List ℕ} {s : ℕ} → j < length xs → Put room' r (row_text (signs n (get_or xs j 0))) room'' s
      → Left room i whole room'' s (rows_text n (drop (j + 1) xs))
  row_put h p = left-put (rows_text n (drop (j + 1) xs)) (first_row h) p

  pub no_row : length xs ≤ j → Put room i whole room' r
  unfolding rows_text
  no_row h = none_left (rw (drop_of_length-le xs h) at l)

-- The bytes of a list's text.
pub length_text : (n : ℕ) (xs : List ℕ)
    → length (list_text n xs) ≡ 16 + length (decimal n) + length (decimal (length xs)) + length xs * (n + 3)
unfolding list_text joined text_parts bytes
length_text n xs =
    let d = decimal n in
    let e = decimal (length xs) in
    let t = rows_text n xs in
    omega (
      arith,
      length-append d (bytes "\n.o 1\n.p " ++ (e ++ (bytes "\n" ++ (t ++ (bytes ".e\n" ++ []))))),
      length-append e (bytes "\n" ++ (t ++ (bytes ".e\n" ++ []))),
      length-append t (bytes ".e\n" ++ []),
      length-rows n xs,
    )

pub few_bytes : (n : ℕ) (xs : List ℕ) → n ≤ 16 → length xs ≤ 16384 → length xs * (n + 3) ≤ 311296
few_bytes n xs h k = let w : n + 3 ≤ 19 = omega arith in let p : length xs * (n + 3) ≤ 16384 * 19 = mul-le-mul k w in p

-- The answer, test by test.
abbrev pub gives : Refusal → ℕ → Result ℕ Refused
gives r v = Err (record { refusal = r; returned = v })

pub given : {r : Refusal} {v : ℕ} {e : Refused} → e.refusal ≡ r → e.returned ≡ v → Err e ≡ gives r v
given a b = λ i. Err (record { refusal = a i; returned = b i })

module _ (n : ℕ) (xs : List ℕ) (room : ℕ) where
  pub no_columns : n < 1 → gives ColumnsOver 0 ≡ write_answer n xs room
  unfolding write_answer write_conditions first_broken answer_by write_returns refusal_of
  no_columns h = rw (lt-leb 1 n h)

  pub over-columns : 1 ≤ n → 16 < n → gives ColumnsOver 0 ≡ write_answer n xs room
  unfolding write_answer write_conditions first_broken answer_by write_returns refusal_of
  over-columns l h = rw (le-leb 1 n l) (rw (lt-leb n 16 h))

  pub over-list : 1 ≤ n → n ≤ 16 → 16384 < length xs → gives ListOver 0 ≡ write_answer n xs room
  unfolding write_answer write_conditions first_broken answer_by write_returns refusal_of
  over-list l h k = rw (le-leb 1 n l) (rw (le-leb n 16 h) (rw (lt-leb (length xs) 16384 k)))

  pub has_malformed : 1 ≤ n → n ≤ 16 → length xs ≤ 16384 → first_malformed n xs ≢ 0
      → gives CubeMalformed (first_malformed n xs) ≡ write_answer n xs room
  unfolding write_answer write_conditions first_broken answer_by write_returns refusal_of
  has_malformed l h k m =
      rw (le-leb 1 n l) (rw (le-leb n 16 h) (rw (le-leb (length xs) 16384 k) (rw (ne_eqb (first_malformed n xs) 0 m))))

  pub too_short : 1 ≤ n → n ≤ 16 → length xs ≤ 16384 → first_malformed n xs ≡ 0 → room < length (list_text n xs)
      → gives TextLacks (length (list_text n xs)) ≡ write_answer n xs room
  unfolding write_answer write_conditions first_broken answer_by write_returns refusal_of
  too_short l h k m s =
      rw (le-leb 1 n l) (rw (le-leb n 16 h) (rw (le-leb (length xs) 16384 k) (rw (eq-eqb (first_malformed n xs) 0 m)
      (rw (lt-leb (length (list_text n xs)) room s)))))

  pub all-kept : 1 ≤ n → n ≤ 16 → length xs ≤ 16384 → first_malformed n xs ≡ 0 → length (list_text n xs) ≤ room
      → first_broken (write_conditions n xs room) ≡ 0
  unfolding write_conditions first_broken
  all-kept l h k m s =
      rw (le-leb 1 n l) (rw (le-leb n 16 h) (rw (le-leb (length xs) 16384 k) (rw (eq-eqb (first_malformed n xs) 0 m)
      (rw (le-leb (length (list_text n xs)) room s)))))

  pub fitting : 1 ≤ n → n ≤ 16 → length xs ≤ 16384 → first_malformed n xs ≡ 0 → length (list_text n xs) ≤ room
      → Ok (length (list_text n xs)) ≡ write_answer n xs room
  unfolding write_answer answer_by
  fitting l h k m s = sym (ap (λ r. answer_by r n xs) (all-kept l h k m s))

-- The parts of a text that are left to be put.
pub record Parts (whole : List ℕ) (room : List ℕ) (room' : List ℕ) (r : ℕ) (parts : List (List ℕ)) : Type 0 where
  pub left : Left room 0 whole room' r (joined parts)

module _ {whole room room' : List ℕ} {r : ℕ} where
  pub part_fits : {p : List ℕ} {ps : List (List ℕ)} → Parts whole room room' r (p ∷ ps) → r + length p ≤ length room'
  unfolding joined
  part_fits {p} {ps} t = first_fits p (joined ps) t.left

  pub part_put : {p room'' : List ℕ} {ps : List (List ℕ)} {s : ℕ} → Parts whole room room' r (p ∷ ps) → Put room' r p room'' s
      → Parts whole room room'' s ps
  unfolding joined
  part_put {ps = ps} t p = record { left = left-put (joined ps) t.left p }

  pub parts_done : Parts whole room room' r [] → Put room 0 whole room' r
  unfolding joined
  parts_done t = none_left t.left

-- The parts of a list's text, as they are put one after the other, and what is left once the first k are.
abbrev pub put_parts : ℕ → List ℕ → List (List ℕ)
put_parts n xs =
    bytes ".i " ∷ decimal_of 9 n ∷ bytes "\n.o 1\n.p " ∷ decimal_of 9 (length xs) ∷ bytes "\n" ∷ rows_text n xs ∷ bytes ".e\n" ∷ []

abbrev pub PartsFrom : ℕ → ℕ → List ℕ → List ℕ → List ℕ → ℕ → Type 0
PartsFrom k n xs room room' r = Parts (list_text n xs) room room' r (drop k (put_parts n xs))

module _ {n : ℕ} {xs room : List ℕ} (w : Writable n xs (length room)) where
  pub no_part : PartsFrom 0 n xs room room 0
  unfolding list_text text_parts
  no_part =
      rw (numeral-decimal n (omega (arith, w.columns))) (rw (numeral-decimal (length xs) (omega (arith, w.few)))
      (record { left = all_left room 0 (list_text n xs) (omega (arith, w.fits)) }))

  module _ {room₁ : List ℕ} {r₁ : ℕ} (p₁ : Put room 0 (bytes ".i ") room₁ r₁) where
    pub one_part : PartsFrom 1 n xs room room₁ r₁
    one_part = part_put no_part p₁

    module _ {room₂ : List ℕ} {r₂ : ℕ} (p₂ : Put room₁ r₁ (decimal_of 9 n) room₂ r₂) where
      pub two_parts : PartsFrom 2 n xs room room₂ r₂
      two_parts = part_put one_part p₂

      module _ {room₃ : List ℕ} {r₃ : ℕ} (p₃ : Put room₂ r₂ (bytes "\n.o 1\n.p ") room₃ r₃) where
        pub three_parts : PartsFrom 3 n xs room room₃ r₃
        three_parts = part_put two_parts p₃

        module _ {room₄ : List ℕ} {r₄ : ℕ} (p₄ : Put room₃ r₃ (decimal_of 9 (length xs)) room₄ r₄) where
          pub four_parts : PartsFrom 4 n xs room room₄ r₄
          four_parts = part_put three_parts p₄

          module _ {room₅ : List ℕ} {r₅ : ℕ} (p₅ : Put room₄ r₄ (bytes "\n") room₅ r₅) where
            pub five_parts : PartsFrom 5 n xs room room₅ r₅
            five_parts = part_put four_parts p₅

            module _ {room₆ : List ℕ} {r₆ : ℕ} (p₆ : Put room₅ r₅ (rows_text n xs) room₆ r₆) where
              pub six_parts : PartsFrom 6 n xs room room₆ r₆
              six_parts = part_put five_parts p₆

              pub all_parts : {room₇ : List ℕ} {r₇ : ℕ} → Put room₆ r₆ (bytes ".e\n") room₇ r₇ → Put room 0 (list_text n xs) room₇ r₇
              all_parts p₇ = parts_done (part_put six_parts p₇)

-- A whole text put from the front, with the rest of the room cleared.
pub put-padded : {room room' : List ℕ} {r : ℕ} {w : List ℕ} → Put room 0 w room' r → (text : List ℕ) → w ≡ text
    → length text ≤ length room → cleared r room' ≡ padded text room
put-padded {room} {room'} {r} {w} p text f h =
    let e : r ≡ length text = omega (arith, p.next, ap length f) in
    ap₂ cleared e (p.stored ∙ ap (sets room 0) f) ∙ cleared-padded room text h

-- What an answer says of the refusals: at done nothing is refused, and the room is written; at a refusal it is kept.
kept-first : (b : Bool) (x k : ℕ) → cond b x (suc k) ≡ 0 → (b ≡ true) × (x ≡ 0)
kept-first true x k e = (refl, e)
kept-first false x k e = let z : ⊥ = omega arith in absurd z

module _ (n : ℕ) (xs : List ℕ) (room : List ℕ) where
  none-broken : first_broken (write_conditions n xs (length room)) ≡ 0 → Writable n xs (length room)
  unfolding write_conditions first_broken
  none-broken e =
      let a = kept-first (leb 1 n && leb n 16) _ 0 e in
      let b = kept-first (leb (length xs) 16384) _ 5 a.1 in
      let d = kept-first (eqb (first_malformed n xs) 0) _ 8 b.1 in
      let g = kept-first (leb (length (list_text n xs)) (length room)) _ 12 d.1 in
      record {
        columns = leb-true n 16 (and_right (leb 1 n) (leb n 16) a.0);
        few = leb-true (length xs) 16384 b.0;
        fits = leb-true (length (list_text n xs)) (length room) g.0;
      }

  none_refused : {k : ℕ} (r : ℕ) → answer_by r n xs ≡ Ok k → r ≡ 0
  unfolding answer_by
  none_refused zero e = refl
  none_refused (suc r) e = search e

  one_refused : {f : Refused} (r : ℕ) → answer_by r n xs ≡ Err f → room_by r n xs room ≡ room
  unfolding answer_by room_by
  one_refused zero e = search e
  one_refused (suc r) e = refl

  -- The answer has the numbers of its refusal.
  answer-numbers : (r : ℕ) → first_broken (write_conditions n xs (length room)) ≡ r
      → numbers_of (answer_by r n xs) ≡ numbers_for r n xs
  unfolding numbers_of numbers_for answer_by write_returns write_conditions
  answer-numbers zero e = refl
  answer-numbers (suc r) e =
      λ i.
      record {
        refusal = first_named (write_conditions n xs (length room)) r refl e i;
        returned = write_returns n xs (suc r);
        written = cond (sym (eqb-suc-zero r) i) (length (list_text n xs)) 0;
      }

  pub wrote : {room' : List ℕ} {w : Result ℕ Refused} → w ≡ write_answer n xs (length room) → room' ≡ room_written n xs room
      → Wrote n xs room room' w
  unfolding write_answer
  wrote e f =
      let r = first_broken (write_conditions n xs (length room)) in
      record { answer = e; numbers = ap numbers_of e ∙ answer-numbers r refl; left = f }

  pub done_writable : {k : ℕ} → Ok k ≡ write_answer n xs (length room) → Writable n xs (length room)
  unfolding write_answer
  done_writable e = none-broken (none_refused (first_broken (write_conditions n xs (length room))) (sym e))

  pub done_wrote : {k : ℕ} {room' : List ℕ} → Ok k ≡ write_answer n xs (length room) → room' ≡ padded (list_text n xs) room
      → Wrote n xs room room' (Ok k)
  unfolding write_answer room_written room_by
  done_wrote e f =
      let z = none_refused (first_broken (write_conditions n xs (length room))) (sym e) in
      wrote e (f ∙ sym (ap (λ r. room_by r n xs room) z))

  pub refused_wrote : {f : Refused} → Err f ≡ write_answer n xs (length room) → Wrote n xs room room (Err f)
  unfolding write_answer room_written
  refused_wrote e = wrote e (sym (one_refused (first_broken (write_conditions n xs (length room))) (sym e)))
