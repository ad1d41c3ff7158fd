-- `desk::checks::say_verdict` meets its contract: what `read_candidate` refuses is said, and on what it reads the verdict, which nothing
-- refuses.
use mathlib.Core.Path.{◌∙◌}
use native.Mathlib.Omega.{arith}
use Rattle.desk.proofs.Saying.{said_as}
use Rattle.desk.proofs.Checked.{text_short, same_rest, candidate_refused, value_small, stands_long, candidate_judged, never_refused}
use Rattle.desk.proofs.checks.say_verdict.Goals as goal

pub overflow_cast-refused : goal.overflow_cast-refused
overflow_cast-refused c =
    omega (arith, value_small c.requires.ready (text_short c.args.input.now c.requires.input c.after_end.ensures) c.read_candidate.ensures c.in-Err.is)

pub slice_bounds-check-end : goal.slice_bounds-check-end
slice_bounds-check-end c =
    stands_long c.requires.ready (text_short c.args.input.now c.requires.input c.after_end.ensures) c.read_candidate.ensures c.in-Ok.is

pub overflow_cast-refused-in-Err-check : goal.overflow_cast-refused-in-Err-check
overflow_cast-refused-in-Err-check c =
    absurd (never_refused c.requires.ready (text_short c.args.input.now c.requires.input c.after_end.ensures) c.read_candidate.ensures c.in-Ok.is c.check.ensures c.in-Err-check.is)

pub returns-in-Err : goal.returns-in-Err
returns-in-Err c =
    said_as c.say_refused.ensures
    (candidate_refused c.requires.ready (text_short c.args.input.now c.requires.input c.after_end.ensures) c.read_candidate.ensures c.in-Err.is ∙ same_rest c.args.input.now c.requires.ready c.after_end.ensures)

pub returns-in-Err-check : goal.returns-in-Err-check
returns-in-Err-check c =
    absurd (never_refused c.requires.ready (text_short c.args.input.now c.requires.input c.after_end.ensures) c.read_candidate.ensures c.in-Ok.is c.check.ensures c.in-Err-check.is)

pub returns-in-Ok-check : goal.returns-in-Ok-check
returns-in-Ok-check c =
    said_as c.say_judged.ensures
    (candidate_judged c.requires.ready (text_short c.args.input.now c.requires.input c.after_end.ensures) c.read_candidate.ensures c.in-Ok.is c.check.ensures c.in-Ok-check.is ∙ same_rest c.args.input.now c.requires.ready c.after_end.ensures)
