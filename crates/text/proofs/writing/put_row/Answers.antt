-- `text::writing::put_row` meets its contract: the signs and then a space, 1 and byte 10.
use native.Mathlib.Omega.{arith}
use Prim.Native.Nat.{◌/◌, ◌%◌}
use Rattle.rule.specs.Number.{signs}
use Rattle.line.specs.Bytes.{bytes}
use Rattle.text.specs.Writing.{row_text}
use Rattle.text.proofs.Room.{put_then}
use Rattle.text.proofs.Written.{length-row, length_sign_bytes}
use Rattle.text.proofs.writing.put_row.Goals as goal

pub put_signs-requires : goal.put_signs-requires
put_signs-requires c = omega (arith, length-row c.args.columns c.args.cube)

pub bytes-requires : goal.bytes-requires
bytes-requires c =
    let n = c.args.columns in
    let x = c.args.cube in
    omega (arith, length-row n x, length_sign_bytes n (x % 65536) (x / 65536), c.put_signs.ensures.put.next)

pub returns-clause-put : goal.returns-clause-put
unfolding row_text signs bytes
returns-clause-put c = put_then c.put_signs.ensures.put c.bytes.ensures.put
