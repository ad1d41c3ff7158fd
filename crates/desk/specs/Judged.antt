-- The checker's answer as a line, and what the functions that say a line promise.
use Rattle.std.specs.Prelude.{◌≡◌, List, ℕ, length, Ok, Err}
use Rattle.rule.specs.Verdict.{accept, off, missing, literal, cube}
use Rattle.rule.specs.Refusal.{number_of}
use Rattle.rule.specs.declared.refusal.Refused.{Refused}
use Rattle.checker.specs.Judging.{Judged}
use Rattle.checker.specs.declared.fault.Fault.TheVariants.{Off, Missing, Literal, Cube}
use Rattle.text.specs.Room.{padded}
use Rattle.desk.specs.Said.{refused_text, verdict_text}

-- The line of a verdict.
unfoldable pub judged_text : ℕ → Judged → List ℕ
judged_text n (Ok x) = verdict_text n accept
judged_text n (Err (Off c p)) = verdict_text n (off c p)
judged_text n (Err (Missing p)) = verdict_text n (missing p)
judged_text n (Err (Literal c k)) = verdict_text n (literal c k)
judged_text n (Err (Cube c)) = verdict_text n (cube c)

-- The line of a refusal.
abbrev pub refusal_text : Refused → List ℕ
refusal_text r = refused_text (number_of r.refusal) r.returned

-- A room holds some bytes with zeros past them, and their number is returned.
pub record Says (w : List ℕ) (room : List ℕ) (room' : List ℕ) (r : ℕ) : Type 0 where
  pub count : r ≡ length w
  pub left : room' ≡ padded w room
