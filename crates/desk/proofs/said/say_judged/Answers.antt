-- `desk::said::say_judged` meets its contract, case by case.
use Rattle.line.specs.Bytes.{bytes}
use Rattle.desk.specs.Said.{verdict_text}
use Rattle.desk.specs.Judged.{judged_text}
use Rattle.desk.proofs.Saying.{fault_said}
use Rattle.desk.proofs.said.say_judged.Goals as goal

pub returns-in-Ok : goal.returns-in-Ok
unfolding bytes judged_text verdict_text
returns-in-Ok c = rw c.in-Ok.is c.say_accept.ensures

pub returns-in-Err-Off : goal.returns-in-Err-Off
unfolding bytes judged_text verdict_text
returns-in-Err-Off c = fault_said _ c.in-Err-Off.is (rw c.in-Err-Off.is at c.in-Err-Off.field-0-is) c.say_off.ensures

pub returns-in-Err-Missing : goal.returns-in-Err-Missing
unfolding bytes judged_text verdict_text
returns-in-Err-Missing c = fault_said _ c.in-Err-Missing.is (rw c.in-Err-Missing.is at c.in-Err-Missing.field-0-is) c.say_missing.ensures

pub returns-in-Err-Literal : goal.returns-in-Err-Literal
unfolding bytes judged_text verdict_text
returns-in-Err-Literal c = fault_said _ c.in-Err-Literal.is (rw c.in-Err-Literal.is at c.in-Err-Literal.field-0-is) c.say_numbers.ensures

pub returns-in-Err-Cube : goal.returns-in-Err-Cube
unfolding bytes judged_text verdict_text
returns-in-Err-Cube c = fault_said _ c.in-Err-Cube.is (rw c.in-Err-Cube.is at c.in-Err-Cube.field-0-is) c.say_cube.ensures
