-- `checker::fill::word_from` meets its contract: a constant's word is known, any other is packed of its halves' words. The measure is the
-- columns left.
use Prim.Native.Nat.{◌-◌}
use Rattle.checker.proofs.fill.+word_from.Given as goal

abbrev pub decreases-word_from : goal.decreases-word_from
decreases-word_from l = l.table.now.columns - l.k
