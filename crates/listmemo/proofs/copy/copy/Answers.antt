-- `listmemo::copy::copy` meets its contract. The loop's invariant is what `Halfway` says after i cubes.
use Rattle.std.proofs.Common.{arith}
use Rattle.listmemo.proofs.Halfway.{halfway_on, halfway_done}
use Rattle.listmemo.proofs.copy.copy.Goals as goal

pub loop-i-preserved : goal.loop-i-preserved
loop-i-preserved c = halfway_on c.loop-i.invariant c.requires (omega arith) (omega arith)

pub returns : goal.returns
returns c = halfway_done c.loop-i.invariant (omega arith)
