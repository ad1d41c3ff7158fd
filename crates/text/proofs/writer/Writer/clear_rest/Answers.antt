-- `text::writer::Writer::clear_rest` meets its contract: what stands before the place stays, and the rest is filled with zeros.
use mathlib.Core.Path.{refl}
use Rattle.text.proofs.Room.{filled-cleared}
use Rattle.text.proofs.writer.Writer.clear_rest.Goals as goal

pub returns-clause-cleared : goal.returns-clause-cleared
returns-clause-cleared c = record { room = filled-cleared _ _ _ (c.fill.ensures.after (λ y e. e)); place = refl }
