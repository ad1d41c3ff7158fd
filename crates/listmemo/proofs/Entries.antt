-- Entries of the memo of lists: a key tells two roots and a column, so an entry of what stands is right, and a memo with one such
-- entry more stays right.
use Rattle.std.proofs.Common.{◌≡◌, ℕ, ◌<◌, List, length, slice_index_or, set, subst, ◌∙◌, arith, length-set}
use Rattle.std.proofs.lemmas.List.Elements.{All-from_get_or, All-set}
use Rattle.listmemo.specs.Past.{key_of, no_entry, Stands, Entry, Keeps}
use Rattle.listmemo.specs.declared.past.Found as found
use Rattle.listmemo.specs.declared.past.Entry as entry

-- What an entry with a key says stands.
module _ {n : ℕ} {c : ℕ} {v : List ℕ} {l : List ℕ} {h : List ℕ} {room : List ℕ} {at : ℕ} where
  pub found_stands : {past : List entry.Entry} (i : ℕ) (a : ℕ) (b : ℕ) (k : ℕ) → Keeps n c v l h room at past → i < 512 → a < 65536 → b < 65536 → k < 64 → (slice_index_or past i no_entry).key ≡ key_of a b k →
      (let f = (slice_index_or past i no_entry).found in Stands n c v l h room at a b k f.cover f.from f.size f.literals)
  found_stands i a b k w hi ha hb hk e = (w.each i hi).says a b k ha hb hk e

-- A key tells its roots and its column.
module _ (a : ℕ) (b : ℕ) (k : ℕ) (x : ℕ) (y : ℕ) (j : ℕ) (hb : b < 65536) (hk : k < 64) (hy : y < 65536) (hj : j < 64) (e : key_of a b k ≡ key_of x y j) where
  tells_column : k ≡ j
  unfolding key_of
  tells_column = omega arith

  tells_lower : a ≡ x
  unfolding key_of
  tells_lower = omega arith

  tells_upper : b ≡ y
  unfolding key_of
  tells_upper = omega arith

module _ {n : ℕ} {c : ℕ} {v : List ℕ} {l : List ℕ} {h : List ℕ} {room : List ℕ} {at : ℕ} {a : ℕ} {b : ℕ} {k : ℕ} {f : found.Found} (hb : b < 65536) (hk : k < 64) (t : Stands n c v l h room at a b k f.cover f.from f.size f.literals) where
  -- An entry of what stands is right.
  entry_new : Entry n c v l h room at (record { key = key_of a b k; found = f })
  entry_new =
      record {
        says = λ x y j hx hy hj e.
            subst (λ (A : Type 0). A)
            (λ i.
            Stands n c v l h room at
            (tells_lower a b k x y j hb hk hy hj e i)
            (tells_upper a b k x y j hb hk hy hj e i)
            (tells_column a b k x y j hb hk hy hj e i)
            f.cover f.from f.size f.literals)
            t;
      }

  -- A memo with one entry more of what stands is right.
  pub keeps_more : {past : List entry.Entry} (i : ℕ) → Keeps n c v l h room at past → Keeps n c v l h room at (set past i (record { key = key_of a b k; found = f }))
  keeps_more {past} i w =
      let right = All-from_get_or (Entry n c v l h room at) past no_entry (λ j hj. w.each j (omega (arith, w.long))) in
      let one : length (set past i (record { key = key_of a b k; found = f })) ≡ 512 = length-set past i _ ∙ w.long in
      record {
        long = one;
        each = λ j hj. All-set (Entry n c v l h room at) past i _ entry_new right j no_entry (omega (arith, one));
      }
