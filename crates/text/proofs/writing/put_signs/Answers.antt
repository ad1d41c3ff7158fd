-- `text::writing::put_signs` meets its contract. The loop's invariant: the signs of the columns that it has not come to are left.
use mathlib.Core.Path.{refl, ◌∙◌}
use native.Mathlib.Omega.{arith}
use Rattle.text.proofs.Written.{all_signs, sign_fits, sign_put, no_sign}
use Rattle.text.proofs.writing.put_signs.Goals as goal

pub loop-init : goal.loop-init
loop-init c = (record { room = refl; long = refl }, all_signs _ _ _ _ _ c.requires)

pub byte-requires : goal.byte-requires
byte-requires c = sign_fits _ _ _ c.loop.invariant.1 (omega arith)

pub loop-preserved : goal.loop-preserved
loop-preserved c =
    let l = c.loop in
    let p = c.byte.ensures in (
      record { room = p.same.room ∙ l.invariant.0.room; long = p.same.long ∙ l.invariant.0.long },
      sign_put _ _ _ _ l.invariant.1 p.put c.sign_byte.ensures (omega arith),
    )

pub returns-clause-put : goal.returns-clause-put
returns-clause-put c = no_sign _ _ _ c.loop.invariant.1 (omega arith)
