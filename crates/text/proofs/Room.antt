-- Rooms: elements stored in two runs are stored in one, what is left of a run is still to be put, and stored elements with the
-- rest cleared are the elements and zeros.
use mathlib.Core.Path.{◌≡◌, refl, sym, ap, ap₂, ◌∙◌}
use mathlib.Core.List.{List, [], ◌∷◌, ◌++◌}
use Prim.Native.Nat.{ℕ, suc, ◌+◌, ◌-◌, ◌≤◌}
use native.Mathlib.Nat.{add-zero, sub-zero}
use native.Mathlib.Numerals.{add-one}
use native.Mathlib.Omega.{arith}
use lib.ListN.{length, take, drop, set, replicate, length-append}
use lib.Seq.{sets, sets-eq, length-sets, take_at}
use borrow.Rule.Slice.PartMut.{put_mid, Post-is}
use Rattle.std.proofs.lemmas.List.{append_assoc}
use Rattle.graph.specs.Entry as Entry
use Rattle.graph.proofs.Clearing as Clearing
use Rattle.text.specs.Room.{cleared, padded, Put}

pub sets_append : (room : List ℕ) (i : ℕ) (a b : List ℕ) → sets room i (a ++ b) ≡ sets (sets room i a) (i + length a) b
sets_append room i [] b = ap (λ k. sets room k b) (sym (add-zero i))
sets_append room i (x ∷ a) b =
    let e : suc i + length a ≡ i + suc (length a) = omega arith in
    sets_append (set room i x) (suc i) a b ∙ ap (λ k. sets (sets (set room i x) (suc i) a) k b) e

-- One run after another.
module _ {room room' : List ℕ} {i r : ℕ} {a : List ℕ} (p : Put room i a room' r) where
  pub put_front : (b : List ℕ) → sets room i (a ++ b) ≡ sets room' r b
  put_front b =
      sets_append room i a b ∙ ap (λ s. sets s (i + length a) b) (sym p.stored) ∙ ap (λ k. sets room' k b) (sym p.next)

  pub put-kept : length room' ≡ length room
  put-kept = ap length p.stored ∙ length-sets room i a

  pub put_then : {room'' : List ℕ} {b : List ℕ} {r' : ℕ} → Put room' r b room'' r' → Put room i (a ++ b) room'' r'
  put_then {b = b} q =
      record { stored = q.stored ∙ sym (put_front b); next = omega (arith, q.next, p.next, length-append a b) }

-- What is left of a run: stored from here on, it gives the room with the whole run, and there is room for it.
pub record Left (room : List ℕ) (i : ℕ) (whole : List ℕ) (room' : List ℕ) (r : ℕ) (rest : List ℕ) : Type 0 where
  pub stored : sets room' r rest ≡ sets room i whole
  pub next : r + length rest ≡ i + length whole
  pub fits : r + length rest ≤ length room'

pub all_left : (room : List ℕ) (i : ℕ) (whole : List ℕ) → i + length whole ≤ length room → Left room i whole room i whole
all_left room i whole h = record { stored = refl; next = refl; fits = h }

module _ {room room' : List ℕ} {i r : ℕ} {whole : List ℕ} where
  -- The first of what is left has room, and once it is put the others are left.
  pub first_fits : (a b : List ℕ) → Left room i whole room' r (a ++ b) → r + length a ≤ length room'
  first_fits a b l = omega (arith, l.fits, length-append a b)

  pub left-put : {a room'' : List ℕ} {s : ℕ} → (b : List ℕ) → Left room i whole room' r (a ++ b) → Put room' r a room'' s
      → Left room i whole room'' s b
  left-put {a} b l p =
      record {
        stored = sym (put_front p b) ∙ l.stored;
        next = omega (arith, l.next, p.next, length-append a b);
        fits = omega (arith, l.fits, p.next, put-kept p, length-append a b);
      }

  -- Nothing is left: the whole run is put.
  pub none_left : Left room i whole room' r [] → Put room i whole room' r
  none_left l = record { stored = l.stored; next = omega (arith, l.next) }

-- One element more of a run.
pub sets_one : (room : List ℕ) (i x : ℕ) (w : List ℕ) → sets room i (x ∷ w) ≡ sets (set room i x) (i + 1) w
sets_one room i x w = ap (λ k. sets (set room i x) k w) (sym (add-one i))

-- Elements copied into the part of a room from a place on.
pub copied-put : (room : List ℕ) (i : ℕ) (w z : List ℕ) → i + length w ≤ length room → z ≡ w
    → Put room i w (put_mid i (i + length w - i) room z) (i + length w)
copied-put room i w z h e =
    record {
      stored =
          ap₂ (λ y t. take i room ++ (y ++ t)) e (Post-is i (i + length w) room (omega arith)) ∙
          sym (sets-eq w room i h ∙ append_assoc (take i room) w (drop (i + length w) room));
      next = refl;
    }

-- A room whose elements from a place on are filled with zeros.
pub filled-cleared : (c : ℕ) (s z : List ℕ) → z ≡ replicate (length (take (length s - c) (drop c s))) 0
    → put_mid c (length s - c) s z ≡ cleared c s
unfolding cleared Entry.cleared
filled-cleared = Clearing.filled-cleared

-- A room that is filled with zeros.
pub all-cleared : (s z : List ℕ) → z ≡ replicate (length s) 0 → z ≡ cleared 0 s
unfolding cleared
all-cleared s z e = e ∙ ap (λ (k : ℕ). replicate k 0) (sym (sub-zero (length s)))

-- Elements stored from the front, with the rest cleared.
pub cleared-padded : (room w : List ℕ) → length w ≤ length room → cleared (length w) (sets room 0 w) ≡ padded w room
unfolding cleared padded
cleared-padded room w h =
    let e : sets room 0 w ≡ w ++ drop (0 + length w) room = sets-eq w room 0 (omega arith) in
    ap (λ k. take (length w) (sets room 0 w) ++ replicate (k - length w) 0) (length-sets room 0 w) ∙
    ap (λ t. t ++ replicate (length room - length w) 0)
    (ap (take (length w)) e ∙ take_at w (drop (0 + length w) room) (length w) refl)
