-- `text::function::name_roots` meets its contract: a memo without entries holds.
use mathlib.Core.Path.{subst⁻¹}
use Rattle.memo.specs.Memo.{Holds}
use Rattle.memo.proofs.Holding.{holds-none}
use Rattle.text.proofs.function.name_roots.Goals as goal

pub name_all-requires-clause-memo : goal.name_all-requires-clause-memo
name_all-requires-clause-memo c = subst⁻¹ (Holds _ _ _ _ _) c.new-memo.ensures holds-none
