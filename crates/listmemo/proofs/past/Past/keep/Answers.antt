-- `listmemo::past::Past::keep` meets its contract: the entry stored says what stands (`Entries.keeps_more`).
use Rattle.std.proofs.Common.{arith}
use Rattle.listmemo.proofs.Entries.{keeps_more}
use Rattle.listmemo.proofs.past.Past.keep.Goals as goal

pub returns : goal.returns
returns c = λ n u v l h room at w t. rw c.key_of-key.ensures (keeps_more (omega arith) c.requires t _ w)
