-- `memo::store::Memo::recall` meets its contract: an entry with the key says what is asked.
use mathlib.Core.Path.{◌∙◌}
use Rattle.memo.specs.Memo.{FoundOf}
use Rattle.memo.proofs.Entries.{entry_found}
use Rattle.memo.proofs.store.Memo.recall.Goals as goal

pub returns-then-e-key_of : goal.returns-then-e-key_of
unfolding FoundOf
returns-then-e-key_of c = λ n r v l h q. tt

pub returns : goal.returns
unfolding FoundOf
returns c = λ n r v l h q. entry_found _ _ _ _ _ c.ranges.a.fits c.ranges.b.fits c.requires (c.if-e-key_of.false ∙ c.key_of.ensures) q
