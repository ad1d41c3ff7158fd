-- What one more read gave stands behind what was read before.
use Rattle.std.proofs.Common.{rules, ◌-◌, length, sym, subst}
use Rattle.std.specs.Io.KnownBytes.{Consumes}
use Rattle.std.proofs.KnownBytes.{Consumes-trans}
use Rattle.intake.proofs.Written.{take_written}
use Rattle.intake.proofs.read_full.Goals as goal

pub loop-done-preserved : goal.loop-done-preserved
loop-done-preserved g c =
    let at = c.loop-done.done in
    let joined = take_written at (length c.loop-done.room - at) c.read_some-count.result c.loop-done.room c.read_some-count.new.room c.loop-done.invariant.1 c.read_some-count.ensures.count in
    (search rules, search rules, subst (Consumes _ _) (sym joined) (Consumes-trans _ _ _ _ _ c.loop-done.invariant.2 c.read_some-count.ensures.bytes))
