-- The contract of a program's function decides its result and every byte of the room.
use mathlib.Core.Path.{◌≡◌, sym, ◌∙◌}
use mathlib.Core.List.{List}
use Prim.Native.Nat.{ℕ}
use Rattle.desk.specs.Answer.{Answers}

pub answers_unique : {w room room₁ room₂ : List ℕ} {r₁ r₂ : ℕ} → Answers w room room₁ r₁ → Answers w room room₂ r₂ → (r₁ ≡ r₂) × (room₁ ≡ room₂)
answers_unique p q = (p.count ∙ sym q.count, p.left ∙ sym q.left)
