-- `desk::said::say_off` meets its contract: the parts are put one after the other, and 32 bytes are enough.
use native.Mathlib.Omega.{arith}
use Rattle.std.proofs.Common.{rules}
use Rattle.line.specs.Bytes.{bytes}
use Rattle.text.proofs.Room.{put_then}
use Rattle.desk.specs.Said.{numeral, point_text, verdict_text}
use Rattle.desk.proofs.Saying.{length-numeral, length_point, said_as, five_parts}
use Rattle.desk.proofs.said.say_off.Goals as goal

pub number-requires : goal.number-requires
unfolding numeral
number-requires c = omega (arith, length-numeral c.args.cube)

pub byte-requires : goal.byte-requires
unfolding numeral
byte-requires c = omega (arith, length-numeral c.args.cube)

pub put_point-requires : goal.put_point-requires
unfolding numeral
put_point-requires c = omega (arith, length-numeral c.args.cube)

pub end_line-requires : goal.end_line-requires
unfolding numeral
end_line-requires c = omega (arith, length-numeral c.args.cube, length_point c.args.columns c.args.point)

pub returns : goal.returns
unfolding bytes verdict_text numeral
returns c =
    let s = said_as
    (c.end_line.ensures.says _ _ (put_then (put_then (put_then c.bytes.ensures.put c.number.ensures.put) c.byte.ensures.put) c.put_point.ensures.put))
    (five_parts (bytes "off ") (numeral c.args.cube) (bytes " ") (point_text c.args.columns c.args.point) (bytes "\n"))
    in
    search rules
