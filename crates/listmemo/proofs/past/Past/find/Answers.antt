-- `listmemo::past::Past::find` meets its contract: an entry with the key asked for says what it holds of the two roots
-- (`Entries.found_stands`).
use Rattle.std.proofs.Common.{◌∙◌, arith, rules}
use Rattle.listmemo.specs.Past.{no_entry, FoundOf}
use Rattle.listmemo.proofs.Entries.{found_stands}
use Rattle.listmemo.proofs.past.Past.find.Goals as goal

pub returns-then-entry-key_of : goal.returns-then-entry-key_of
unfolding FoundOf
returns-then-entry-key_of c = search rules

pub returns : goal.returns
unfolding FoundOf no_entry
returns c =
    λ n u v l h room at w.
    found_stands _ _ _ _ w c.place_of.ensures (omega arith) (omega arith) c.requires (c.if-entry-key_of.false ∙ c.key_of.ensures)
