-- Lines said: a point's digits put column by column, and the parts of a line with its end and zeros past it.
use mathlib.Core.Path.{◌≡◌, refl, sym, ap, ap₂, ◌∙◌, subst}
use mathlib.Core.List.{List, [], ◌∷◌, ◌++◌, append_assoc, append-nil}
use Prim.Native.Nat.{ℕ, zero, suc, ◌+◌, ◌-◌, ◌/◌, ◌%◌, ◌<◌, ◌≤◌}
use native.Mathlib.Omega.{arith}
use lib.ListN.{length, length-append}
use Rattle.std.specs.Prelude.{Err}
use Rattle.rule.specs.Point.{bit, odd, digits}
use Rattle.rule.proofs.Points.{put-odd}
use Rattle.line.specs.Bytes.{bytes}
use Rattle.line.specs.Decimal.{digit}
use Rattle.checker.specs.Judging.{Judged}
use Rattle.checker.specs.declared.fault.Fault.{Fault}
use Rattle.text.specs.Room.{cleared, Put}
use Rattle.text.specs.Writing.{joined}
use Rattle.text.proofs.Numerals as Numerals
use Rattle.text.proofs.Room.{Left, all_left, left-put, none_left, put_then, put-kept}
use Rattle.text.proofs.Written.{put-padded}
use Rattle.desk.specs.Said.{numeral, point_text}
use Rattle.desk.specs.Judged.{judged_text, Says}

pub length-numeral : (n : ℕ) → length (numeral n) ≤ 10
unfolding numeral
length-numeral n = Numerals.length-numeral n

-- A point's digits: the first column's first, and there is one for each column.
column-digit : (p : ℕ) → digit (bit (odd p)) ≡ 48 + p % 2
unfolding digit
column-digit p = omega (arith, put-odd p)

pub next-column : (left p : ℕ) → 0 < left → point_text left p ≡ ((48 + p % 2) ∷ []) ++ point_text (left - 1) (p / 2)
unfolding point_text digits
next-column zero p h = let x : ⊥ = omega arith in absurd x
next-column (suc m) p h =
    let k : m ≡ suc m - 1 = omega arith in
    ap₂ (λ b l. b ∷ point_text l (p / 2)) (column-digit p) k

pub length_point : (n p : ℕ) → length (point_text n p) ≡ n
unfolding point_text digits
length_point zero p = refl
length_point (suc n) p = ap suc (length_point n (p / 2))

-- At first all columns are left, then one less, and at last none.
pub all_columns : (room : List ℕ) (i n p : ℕ) → i + n ≤ length room → Left room i (point_text n p) room i (point_text (n - 0) p)
all_columns room i n p h =
    let k : n - 0 ≡ n = omega arith in
    rw k (all_left room i (point_text n p) (omega (arith, length_point n p)))

module _ {room whole room' : List ℕ} {i r : ℕ} (left p : ℕ) (l : Left room i whole room' r (point_text left p)) where
  pub column_fits : 0 < left → r < length room'
  column_fits h = omega (arith, l.fits, length_point left p)

  pub column_put : {room'' : List ℕ} {s : ℕ} → (k : ℕ) → Put room' r ((48 + p % 2) ∷ []) room'' s → left ≡ k + 1
      → Left room i whole room'' s (point_text k (p / 2))
  column_put {room''} {s} k q e =
      let g : left - 1 ≡ k = omega arith in
      let t : Left room i whole room'' s (point_text (left - 1) (p / 2)) =
      left-put (point_text (left - 1) (p / 2)) (rw (next-column left p (omega arith)) at l) q
      in
      rw g at t

  pub no_column : left ≡ 0 → Put room i whole room' r
  unfolding point_text digits
  no_column e = none_left (rw e at l)

-- The end of a line.
pub line_ended : {old w room room' room'' : List ℕ} {i r : ℕ} → Put old 0 w room i → Put room i (bytes "\n") room' r
    → room'' ≡ cleared r room' → i < length room → Says (w ++ bytes "\n") old room'' r
unfolding bytes
line_ended {w = w} p q e h =
    let all = put_then p q in
    record {
      count = omega (arith, all.next);
      left = e ∙ put-padded all (w ++ bytes "\n") refl (omega (arith, length-append w (bytes "\n"), put-kept p, p.next));
    }

pub said_as : {w w' room room' : List ℕ} {r : ℕ} → Says w room room' r → w ≡ w' → Says w' room room' r
said_as {room = room} {room' = room'} {r = r} s e = subst (λ u. Says u room room' r) e s

-- What is said of a fault is said of the verdict that has it.
pub fault_said : (n : ℕ) {r : ℕ} {room room' : List ℕ} {v : Judged} {f g : Fault} → v ≡ Err f → f ≡ g → Says (judged_text n (Err g)) room room' r
    → Says (judged_text n v) room room' r
fault_said n e h s = said_as s (ap (λ k. judged_text n (Err k)) (sym h) ∙ ap (judged_text n) (sym e))

-- The parts of a line, as they are put one after the other.
pub three_parts : (a b c : List ℕ) → a ++ b ++ c ≡ joined (a ∷ b ∷ c ∷ [])
unfolding joined
three_parts a b c = simp (append_assoc, append-nil)

pub five_parts : (a b c d e : List ℕ) → a ++ b ++ c ++ d ++ e ≡ joined (a ∷ b ∷ c ∷ d ∷ e ∷ [])
unfolding joined
five_parts a b c d e = simp (append_assoc, append-nil)
