-- `desk::said::put_point` meets its contract. The loop's invariant: the digits of the columns that it has not come to are left.
use mathlib.Core.Path.{refl, ◌∙◌}
use native.Mathlib.Omega.{arith}
use Rattle.desk.proofs.Saying.{all_columns, column_fits, column_put, no_column}
use Rattle.desk.proofs.said.put_point.Goals as goal

pub loop-init : goal.loop-init
loop-init c = (record { room = refl; long = refl }, all_columns _ _ _ _ c.requires)

pub byte-requires : goal.byte-requires
byte-requires c = column_fits _ _ c.loop.invariant.1 (omega arith)

pub loop-preserved : goal.loop-preserved
loop-preserved c =
    let l = c.loop in
    let p = c.byte.ensures in (
      record { room = p.same.room ∙ l.invariant.0.room; long = p.same.long ∙ l.invariant.0.long },
      column_put _ _ l.invariant.1 _ p.put (omega arith),
    )

pub returns-clause-put : goal.returns-clause-put
returns-clause-put c = no_column _ _ c.loop.invariant.1 (omega arith)
