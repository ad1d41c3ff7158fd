-- `desk::said::say_numbers` meets its contract: the parts are put one after the other, and 32 bytes are enough.
use native.Mathlib.Omega.{arith}
use Rattle.std.proofs.Common.{rules}
use Rattle.line.specs.Bytes.{bytes}
use Rattle.text.proofs.Room.{put_then}
use Rattle.desk.specs.Said.{numeral}
use Rattle.desk.proofs.Saying.{length-numeral, said_as, five_parts}
use Rattle.desk.proofs.said.say_numbers.Goals as goal

pub number-requires : goal.number-requires
unfolding numeral
number-requires c = omega (arith, length-numeral c.args.a)

pub byte-requires : goal.byte-requires
unfolding numeral
byte-requires c = omega (arith, length-numeral c.args.a)

pub number-requires-2 : goal.number-requires-2
unfolding numeral
number-requires-2 c = omega (arith, length-numeral c.args.a, length-numeral c.args.b)

pub end_line-requires : goal.end_line-requires
unfolding numeral
end_line-requires c = omega (arith, length-numeral c.args.a, length-numeral c.args.b)

pub returns : goal.returns
unfolding bytes numeral
returns c =
    let s = said_as
    (c.end_line.ensures.says _ _ (put_then (put_then (put_then c.bytes.ensures.put c.number.ensures.put) c.byte.ensures.put) c.number-2.ensures.put))
    (five_parts c.args.word.now (numeral c.args.a) (bytes " ") (numeral c.args.b) (bytes "\n"))
    in
    search rules
