-- `desk::checks::check_in` meets its contract: what reading the function text refuses is said first, and a candidate for what it reads
-- is judged.
use mathlib.Core.Path.{ap, ◌∙◌}
use native.Mathlib.Omega.{arith}
use lib.ListN.{length}
use Rattle.desk.specs.Answer.{check_answer}
use Rattle.desk.proofs.Saying.{said_as}
use Rattle.desk.proofs.Reading.{text_refused, value_small, text_read}
use Rattle.desk.proofs.Prepared.{ready_of}
use Rattle.desk.proofs.Checked.{rows_checked}
use Rattle.desk.proofs.checks.check_in.Goals as goal

pub overflow_cast-refused : goal.overflow_cast-refused
overflow_cast-refused c = omega (arith, value_small c.read.ensures.reads c.told-rooms c.told-rooms2 c.told-rooms3 c.in-Err.is)

pub say_verdict-requires-clause-input : goal.say_verdict-requires-clause-input
say_verdict-requires-clause-input c = (text_read c.read.ensures.reads c.told-rooms c.told-rooms2 c.told-rooms3 c.in-Ok.is).short

pub say_verdict-requires-clause-ready : goal.say_verdict-requires-clause-ready
say_verdict-requires-clause-ready c =
    ready_of (text_read c.read.ensures.reads c.told-rooms c.told-rooms2 c.told-rooms3 c.in-Ok.is) (ap length c.read.ensures.list ∙ c.told-rooms4) c.requires

pub returns-in-Err : goal.returns-in-Err
unfolding check_answer
returns-in-Err c =
    said_as c.say_refused.ensures (text_refused c.read.ensures.reads c.told-rooms c.told-rooms2 c.told-rooms3 c.in-Err.is _)

pub returns-in-Ok : goal.returns-in-Ok
returns-in-Ok c =
    said_as c.say_verdict.ensures (rows_checked (text_read c.read.ensures.reads c.told-rooms c.told-rooms2 c.told-rooms3 c.in-Ok.is))
