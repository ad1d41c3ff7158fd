-- `rows::cube::cube_from` meets its contract: each call and each way out is a law of `Cubes`. The measure is the columns left.
use Prim.Native.Nat.{◌-◌}
use Rattle.rows.proofs.cube.+cube_from.Given as goal

abbrev pub decreases-cube_from : goal.decreases-cube_from
decreases-cube_from l = l.table.now.columns - l.k
