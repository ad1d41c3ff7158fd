-- A part of a room that was written, beside what stands before it.
use Rattle.std.proofs.Common.{◌≡◌, ℕ, ◌+◌, ◌≤◌, List, ◌++◌, length, take, ap, ◌∙◌, drop_at, length-take-le, le_refl}
use Rattle.std.proofs.lemmas.Slice.{take-put_mid_below}
use borrow.Rule.Slice.PartMut.{put_mid, post_of}
use lib.Seq.{take-add, take-append-le}

-- The first n bytes of a part of k bytes that begins at place a stand behind the room's first a bytes.
pub take_written : (a k n : ℕ) (room part : List ℕ) → a ≤ length room → n ≤ length part → take (a + n) (put_mid a k room part) ≡ take a room ++ take n part
take_written a k n room part within fits =
    let whole = put_mid a k room part in
    let after = post_of a k room in
    take-add a n whole
    ∙ ap (λ l. take a whole ++ take n l) (drop_at (take a room) (part ++ after) a (length-take-le a room within))
    ∙ ap (λ l. take a whole ++ l) (take-append-le n part after fits)
    ∙ ap (λ l. l ++ take n part) (take-put_mid_below a k room part a (le_refl a) within)
