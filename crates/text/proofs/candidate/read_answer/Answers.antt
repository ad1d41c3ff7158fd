-- `text::candidate::read_answer` meets its contract: what the judging told decides the last three ways out.
use Rattle.std.proofs.Common.{ap, ◌∙◌, Err, rules}
use Rattle.std.proofs.lemmas.Result.{err_from_is_err_and}
use Rattle.text.proofs.Taken.{refused_is, told-Ok, told-Err, text_faulty, room-short, room_enough}
use Rattle.text.proofs.candidate.read_answer.Goals as goal

pub returns-in_err-shape : goal.returns-in_err-shape
returns-in_err-shape c =
    let t = told-Err _ _ _ c.in_err-shape.field-0.0 c.in_err-shape.ensures.variant c.in_err-shape.ensures.cases (λ e p. search rules) in
    let s = err_from_is_err_and c.from_residual.result c.from_residual.ensures.1 in
    s.1 ∙ ap Err (s.2 ∙ t.2) ∙
    text_faulty _ _ _ c.if-columns-lt1.false c.if-columns-gt16.false c.if-text-gt32768.false c.if-room-gt16384.false _ (t.1 ∙ c.judge-judged.ensures)

pub returns-then-room-needed : goal.returns-then-room-needed
returns-then-room-needed c =
    ap Err (refused_is c.returning.result c.returning.ensures.refusal c.returning.ensures.returned) ∙
    room-short _ _ _ c.if-columns-lt1.false c.if-columns-gt16.false c.if-text-gt32768.false c.if-room-gt16384.false c.in_ok-shape.shape
    (told-Ok _ _ c.in_ok-shape.ensures.cases ∙ c.judge-judged.ensures) c.if-room-needed.true

pub returns : goal.returns
returns c =
    room_enough _ _ _ c.if-columns-lt1.false c.if-columns-gt16.false c.if-text-gt32768.false c.if-room-gt16384.false c.in_ok-shape.shape
    (told-Ok _ _ c.in_ok-shape.ensures.cases ∙ c.judge-judged.ensures) c.if-room-needed.false
