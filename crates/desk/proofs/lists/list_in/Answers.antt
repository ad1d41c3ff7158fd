-- `desk::lists::list_in` meets its contract: what reading refuses is said first, and what it reads is listed.
use mathlib.Core.Path.{ap, ◌∙◌}
use native.Mathlib.Omega.{arith}
use lib.ListN.{length}
use Rattle.desk.specs.Answer.{list_answer}
use Rattle.desk.proofs.Saying.{said_as}
use Rattle.desk.proofs.Reading.{text_refused, value_small, text_read}
use Rattle.desk.proofs.Prepared.{ready_of}
use Rattle.desk.proofs.Listed.{rows-listed}
use Rattle.desk.proofs.lists.list_in.Goals as goal

pub overflow_cast-refused : goal.overflow_cast-refused
overflow_cast-refused c = omega (arith, value_small c.read.ensures.reads c.told-rooms c.told-rooms2 c.told-rooms3 c.in-Err.is)

pub say_list-requires : goal.say_list-requires
say_list-requires c =
    ready_of (text_read c.read.ensures.reads c.told-rooms c.told-rooms2 c.told-rooms3 c.in-Ok.is) (ap length c.read.ensures.list ∙ c.told-rooms4) c.requires

pub returns-in-Err : goal.returns-in-Err
unfolding list_answer
returns-in-Err c =
    said_as c.say_refused.ensures (text_refused c.read.ensures.reads c.told-rooms c.told-rooms2 c.told-rooms3 c.in-Err.is _)

pub returns-in-Ok : goal.returns-in-Ok
returns-in-Ok c =
    said_as c.say_list.ensures
    (rows-listed _ c.args.answer.now (text_read c.read.ensures.reads c.told-rooms c.told-rooms2 c.told-rooms3 c.in-Ok.is) (ap length c.read.ensures.list ∙ c.told-rooms4) c.requires)
