-- What a writer's functions promise of its room.
use Rattle.std.specs.Prelude.{◌≡◌, List, ℕ, length}
use Rattle.text.specs.Room.{cleared, Put}
use Rattle.text.specs.declared.writer.Writer.{Writer}

-- The room is the same, of the same length.
pub record SameRoom (w : Writer) (w' : Writer) : Type 0 where
  pub room : w'.room.ghost_name ≡ w.room.ghost_name
  pub long : length w'.room.now ≡ length w.room.now

-- Some bytes stand at the place, and the place lies past them.
abbrev pub PutIn : Writer → List ℕ → Writer → Type 0
PutIn w bytes w' = Put w.room.now w.at bytes w'.room.now w'.at

-- The bytes past the place are zero.
pub record ClearedIn (w : Writer) (w' : Writer) : Type 0 where
  pub room : w'.room.now ≡ cleared w.at w.room.now
  pub place : w'.at ≡ w.at
