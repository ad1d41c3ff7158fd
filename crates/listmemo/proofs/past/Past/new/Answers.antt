-- `listmemo::past::Past::new` meets its contract: its entries are the one that says nothing.
use Rattle.std.proofs.Common.{refl}
use Rattle.listmemo.specs.Past.{no_entry}
use Rattle.listmemo.proofs.past.Past.new.Goals as goal

pub returns : goal.returns
unfolding no_entry
returns c = refl
