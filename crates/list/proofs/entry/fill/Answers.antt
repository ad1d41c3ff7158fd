-- `list::entry::fill` meets its contract: a memo of operations without entries holds.
use mathlib.Core.Path.{subst⁻¹}
use Rattle.memo.specs.Memo.{Holds}
use Rattle.memo.proofs.Holding.{holds-none}
use Rattle.list.proofs.entry.fill.Goals as goal

pub list_all-requires-clause-memo : goal.list_all-requires-clause-memo
list_all-requires-clause-memo c = subst⁻¹ (Holds _ _ _ _ _) c.new-memo.ensures holds-none
