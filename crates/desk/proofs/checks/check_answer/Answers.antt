-- `desk::checks::check_answer` meets its contract: a short room is left as it is, another holds what `check_in` answers.
use Rattle.desk.specs.Answer.{check_answer}
use Rattle.desk.proofs.Prepared.{short-room, whole_room}
use Rattle.desk.proofs.checks.check_answer.Goals as goal

pub returns-then-answer-lt-ANSWER_ROOM : goal.returns-then-answer-lt-ANSWER_ROOM
returns-then-answer-lt-ANSWER_ROOM c = short-room (check_answer c.args.input.now) c.args.answer.now c.if-answer-lt-ANSWER_ROOM.true

pub returns : goal.returns
returns c = whole_room c.if-answer-lt-ANSWER_ROOM.false c.check_in.ensures
