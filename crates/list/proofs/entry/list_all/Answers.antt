-- `list::entry::list_all` meets its contract: the memo of lists has no entries at first, and the path begins at column 0.
use mathlib.Core.Path.{refl}
use Rattle.std.proofs.Common.{rules}
use Rattle.list.proofs.Entering.{list_asks, all_filled, none_filled}
use Rattle.list.proofs.Remembering.{memos_begin}
use Rattle.list.proofs.entry.list_all.Goals as goal

pub generate_at-requires-clause-roots : goal.generate_at-requires-clause-roots
generate_at-requires-clause-roots c = list_asks c.args.operations.now.table.now c.requires.roots

pub generate_at-requires-clause-memos : goal.generate_at-requires-clause-memos
generate_at-requires-clause-memos c = memos_begin c.requires.memo c.new.ensures

pub returns-in_err-generate_at-clause-filled : goal.returns-in_err-generate_at-clause-filled
returns-in_err-generate_at-clause-filled c =
    none_filled (record { operations = c.args.operations; past = c.new.result; room = c.args.room; at = 0 }) c.generate_at.new.self _ _ refl (search rules) (search rules) c.from_residual.ensures c.in_err-generate_at.ensures.list

pub returns-clause-filled : goal.returns-clause-filled
returns-clause-filled c =
    all_filled (record { operations = c.args.operations; past = c.new.result; room = c.args.room; at = 0 }) c.generate_at.new.self _ _ refl (search rules) (search rules) c.in_ok-generate_at.field-0 c.in_ok-generate_at.ensures.list
