-- `text::writing::put_rows` meets its contract. The loop's invariant: the rows of the cubes that it has not come to are left.
use mathlib.Core.Path.{◌∙◌}
use Rattle.text.proofs.Written.{row_fits, row_put, no_row}
use Rattle.text.proofs.writing.put_rows.Goals as goal

pub put_row-requires : goal.put_row-requires
put_row-requires c = row_fits _ _ _ c.loop-cube.invariant.1 c.loop-cube-test.true

pub loop-cube-preserved : goal.loop-cube-preserved
loop-cube-preserved c =
    let l = c.loop-cube in
    let p = c.put_row.ensures in (
      record { room = p.same.room ∙ l.invariant.0.room; long = p.same.long ∙ l.invariant.0.long },
      row_put _ _ _ l.invariant.1 c.loop-cube-test.true p.put,
    )

pub returns-clause-put : goal.returns-clause-put
returns-clause-put c = no_row _ _ _ c.loop-cube.invariant.1 c.loop-cube-test.false
