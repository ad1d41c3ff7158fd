-- `desk::lists::list_answer` meets its contract: a short room is left as it is, another holds what `list_in` answers.
use Rattle.desk.specs.Answer.{list_answer}
use Rattle.desk.proofs.Prepared.{short-room, whole_room}
use Rattle.desk.proofs.lists.list_answer.Goals as goal

pub returns-then-answer-lt-ANSWER_ROOM : goal.returns-then-answer-lt-ANSWER_ROOM
returns-then-answer-lt-ANSWER_ROOM c = short-room (list_answer c.args.input.now) c.args.answer.now c.if-answer-lt-ANSWER_ROOM.true

pub returns : goal.returns
returns c = whole_room c.if-answer-lt-ANSWER_ROOM.false c.list_in.ensures
