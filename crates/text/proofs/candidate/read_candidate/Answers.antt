-- `text::candidate::read_candidate` meets its contract: at done the second pass takes the rows, and a refusal decides whether the room
-- is cleared or kept.
use Rattle.std.proofs.Common.{sym, ap, ◌∙◌, arith, length}
use mathlib.Core.Logic.{⊎_elim}
use Rattle.text.proofs.Room.{filled-cleared, all-cleared}
use Rattle.text.proofs.Taken.{done_takes, done-left, cleared_by_fault, cleared_by_lack, kept_by_others, has_taken}
use Rattle.text.proofs.candidate.read_candidate.Goals as goal

pub put_cubes-past-requires : goal.put_cubes-past-requires
put_cubes-past-requires c =
    let t = done_takes _ _ c.args.room.now _ (sym c.in-Ok.is ∙ c.read_answer-answer.ensures) in
    (t.short, omega (arith, ap length t.same, t.fits))

pub returns-in-Ok : goal.returns-in-Ok
returns-in-Ok c =
    let t = done_takes _ _ c.args.room.now _ (sym c.in-Ok.is ∙ c.read_answer-answer.ensures) in
    has_taken _ _ _ _ _ c.read_answer-answer.ensures (filled-cleared _ _ _ (c.fill.ensures.after (λ y e. e)) ∙ done-left _ _ _ t c.put_cubes-past.ensures.put)

pub returns-in-TextFault : goal.returns-in-TextFault
returns-in-TextFault c =
    let e = sym c.in-Err.is ∙ c.read_answer-answer.ensures in
    has_taken _ _ _ _ _ e
    (all-cleared _ _ (c.fill-in-TextFault.ensures.after (λ y e. e)) ∙
    ⊎_elim (cleared_by_fault _ _ _ _ e) (cleared_by_lack _ _ _ _ e) c.in-TextFault.is)

pub returns-in_default : goal.returns-in_default
returns-in_default c =
    let e = sym c.in-Err.is ∙ c.read_answer-answer.ensures in
    has_taken _ _ _ _ _ e (kept_by_others _ _ _ _ e c.in_default.not-TextFault c.in_default.not-ListLacks)
