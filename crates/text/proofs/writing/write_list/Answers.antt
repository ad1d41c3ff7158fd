-- `text::writing::write_list` meets its contract: the answer decides whether the room is written or kept.
use mathlib.Core.Path.{◌≡◌}
use Rattle.std.proofs.Common.{rules, Err}
use Rattle.text.proofs.Written.{done_writable, done_wrote, refused_wrote}
use Rattle.text.proofs.writing.write_list.Goals as goal

pub returns-in_err-written : goal.returns-in_err-written
returns-in_err-written c =
    let w = refused_wrote c.args.columns c.args.list.now c.args.room.now c.in_err-written.ensures in
    let e : c.from_residual.result ≡ Err c.in_err-written.field-0.0 = search rules in
    rw e w

pub put_text-requires : goal.put_text-requires
put_text-requires c = done_writable c.args.columns c.args.list.now c.args.room.now c.in_ok-written.ensures

pub returns : goal.returns
returns c = done_wrote c.args.columns c.args.list.now c.args.room.now c.in_ok-written.ensures c.put_text.ensures
