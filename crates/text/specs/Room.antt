-- Lent rooms: what is stored at a place, and what is cleared past one.
use Rattle.std.specs.Prelude.{◌≡◌, List, ◌++◌, ℕ, ◌+◌, ◌-◌, length, take, replicate}
use Rattle.std.proofs.lemmas.List.Edits.{sets}

-- A room whose elements from place c on are zero.
unfoldable pub cleared : ℕ → List ℕ → List ℕ
cleared c s = take c s ++ replicate (length s - c) 0

-- Elements with zeros past them, as long as a room.
unfoldable pub padded : List ℕ → List ℕ → List ℕ
padded w room = w ++ replicate (length room - length w) 0

-- What an inner function promises that puts elements into a room at a place: they stand there, and the place past them.
pub record Put (room : List ℕ) (place : ℕ) (w : List ℕ) (room' : List ℕ) (r : ℕ) : Type 0 where
  pub stored : room' ≡ sets room place w
  pub next : r ≡ place + length w
