-- `desk::said::say_missing` meets its contract: the parts are put one after the other, and 32 bytes are enough.
use native.Mathlib.Omega.{arith}
use Rattle.std.proofs.Common.{rules}
use Rattle.line.specs.Bytes.{bytes}
use Rattle.text.proofs.Room.{put_then}
use Rattle.desk.specs.Said.{point_text, verdict_text}
use Rattle.desk.proofs.Saying.{length_point, said_as, three_parts}
use Rattle.desk.proofs.said.say_missing.Goals as goal

pub end_line-requires : goal.end_line-requires
end_line-requires c = omega (arith, length_point c.args.columns c.args.point)

pub returns : goal.returns
unfolding bytes verdict_text
returns c =
    let s = said_as
    (c.end_line.ensures.says _ _ (put_then c.bytes.ensures.put c.put_point.ensures.put))
    (three_parts (bytes "missing ") (point_text c.args.columns c.args.point) (bytes "\n"))
    in
    search rules
