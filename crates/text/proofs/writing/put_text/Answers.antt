-- `text::writing::put_text` meets its contract: the parts are put one after the other, and what they need is the text's length.
use mathlib.Core.Path.{◌≡◌, refl, ◌∙◌}
use native.Mathlib.Omega.{arith}
use Rattle.std.proofs.Common.{rules}
use Rattle.line.specs.Bytes.{bytes}
use Rattle.text.specs.Room.{padded}
use Rattle.text.specs.Writing.{list_text}
use Rattle.text.proofs.Room.{put-kept}
use Rattle.text.proofs.Written.{part_fits, no_part, one_part, two_parts, three_parts, four_parts, five_parts, six_parts, all_parts, put-padded}
use Rattle.text.proofs.writing.put_text.Goals as goal

pub bytes-requires : goal.bytes-requires
unfolding bytes
bytes-requires c = let h = part_fits (no_part c.requires) in omega arith

pub number-requires : goal.number-requires
unfolding bytes
number-requires c = part_fits (one_part c.requires c.bytes.ensures.put)

pub bytes-requires-2 : goal.bytes-requires-2
unfolding bytes
bytes-requires-2 c = part_fits (two_parts c.requires c.bytes.ensures.put c.number.ensures.put)

pub number-requires-2 : goal.number-requires-2
unfolding bytes
number-requires-2 c = part_fits (three_parts c.requires c.bytes.ensures.put c.number.ensures.put c.bytes-2.ensures.put)

pub bytes-requires-3 : goal.bytes-requires-3
unfolding bytes
bytes-requires-3 c = part_fits (four_parts c.requires c.bytes.ensures.put c.number.ensures.put c.bytes-2.ensures.put c.number-2.ensures.put)

pub put_rows-requires : goal.put_rows-requires
unfolding bytes
put_rows-requires c = part_fits (five_parts c.requires c.bytes.ensures.put c.number.ensures.put c.bytes-2.ensures.put c.number-2.ensures.put c.bytes-3.ensures.put)

pub bytes-requires-4 : goal.bytes-requires-4
unfolding bytes
bytes-requires-4 c =
    let h = part_fits (six_parts c.requires c.bytes.ensures.put c.number.ensures.put c.bytes-2.ensures.put c.number-2.ensures.put c.bytes-3.ensures.put c.put_rows.ensures.put) in
    omega arith

pub clear_rest-requires : goal.clear_rest-requires
unfolding bytes
clear_rest-requires c =
    let h = part_fits (six_parts c.requires c.bytes.ensures.put c.number.ensures.put c.bytes-2.ensures.put c.number-2.ensures.put c.bytes-3.ensures.put c.put_rows.ensures.put) in
    omega (arith, c.bytes-4.ensures.put.next, put-kept c.bytes-4.ensures.put)

pub returns : goal.returns
unfolding bytes
returns c =
    let all = all_parts c.requires c.bytes.ensures.put c.number.ensures.put c.bytes-2.ensures.put c.number-2.ensures.put c.bytes-3.ensures.put c.put_rows.ensures.put c.bytes-4.ensures.put in
    let e : c.clear_rest.new.self.room.now ≡ padded (list_text c.args.columns c.args.list.now) c.args.room.now =
    c.clear_rest.ensures.cleared.room ∙ put-padded all (list_text c.args.columns c.args.list.now) refl c.requires.fits
    in
    search rules
