-- `desk::said::say_cube` meets its contract: the parts are put one after the other, and 32 bytes are enough.
use native.Mathlib.Omega.{arith}
use Rattle.std.proofs.Common.{rules}
use Rattle.line.specs.Bytes.{bytes}
use Rattle.text.proofs.Room.{put_then}
use Rattle.desk.specs.Said.{numeral, verdict_text}
use Rattle.desk.proofs.Saying.{length-numeral, said_as, three_parts}
use Rattle.desk.proofs.said.say_cube.Goals as goal

pub number-requires : goal.number-requires
unfolding numeral
number-requires c = omega (arith, length-numeral c.args.cube)

pub end_line-requires : goal.end_line-requires
unfolding numeral
end_line-requires c = omega (arith, length-numeral c.args.cube)

pub returns : goal.returns
unfolding bytes verdict_text numeral
returns c =
    let s = said_as
    (c.end_line.ensures.says _ _ (put_then c.bytes.ensures.put c.number.ensures.put))
    (three_parts (bytes "cube ") (numeral c.args.cube) (bytes "\n"))
    in
    search rules
