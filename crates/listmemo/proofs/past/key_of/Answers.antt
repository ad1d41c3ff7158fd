-- `listmemo::past::key_of` meets its contract: the sums of the code are those of the key, and fit.
use borrow.Author.Rules.{rules}
use Rattle.listmemo.specs.Past.{key_of}
use Rattle.listmemo.proofs.past.key_of.Goals as goal

pub returns : goal.returns
unfolding key_of
returns c = search rules
