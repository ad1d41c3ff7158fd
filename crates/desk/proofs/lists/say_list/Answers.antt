-- `desk::lists::say_list` meets its contract: what `generate` refuses is said, and what it delivers is written, which nothing refuses.
use native.Mathlib.Omega.{arith}
use Rattle.desk.proofs.Saying.{said_as}
use Rattle.desk.proofs.Listed.{list-refused, length_small, stands_long, list-said, never_refused}
use Rattle.desk.proofs.lists.say_list.Goals as goal

pub overflow_cast-refused : goal.overflow_cast-refused
overflow_cast-refused c = omega (arith, length_small c.requires c.generate.ensures.generates c.in-Err.is)

pub slice_bounds-write_list-end : goal.slice_bounds-write_list-end
slice_bounds-write_list-end c = stands_long c.requires c.generate.ensures.generates c.in-Ok.is

pub returns-in-Err : goal.returns-in-Err
returns-in-Err c = said_as c.say_refused.ensures (list-refused c.requires c.generate.ensures.generates c.in-Err.is)

pub returns-in-Ok-write_list : goal.returns-in-Ok-write_list
returns-in-Ok-write_list c = list-said c.requires c.generate.ensures.generates c.in-Ok.is c.write_list.ensures c.in-Ok-write_list.is

pub unreachable-requires : goal.unreachable-requires
unreachable-requires c =
    never_refused c.requires c.generate.ensures.generates c.in-Ok.is c.write_list.ensures c.in_default.is
