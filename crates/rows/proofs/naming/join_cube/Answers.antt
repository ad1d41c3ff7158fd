-- `rows::naming::join_cube` meets its contract: each call and each way out is a law of `Joining`.
use Rattle.rows.proofs.Cubes.{CubePromise}
use Rattle.rows.proofs.Joining.{cube-root, cube_full, set_roots, cube_holds, set_joined}
use Rattle.rows.proofs.naming.join_cube.Goals as goal

pub cube_from-requires : goal.cube_from-requires
cube_from-requires c = cube-root c.args.operations.now.table.now _ c.args.cube c.requires.set

pub returns-in_err-x-clause-joined : goal.returns-in_err-x-clause-joined
unfolding CubePromise
returns-in_err-x-clause-joined c =
    rw c.from_residual.ensures (cube_full c.args.operations.now.table.now _ _ c.requires.set c.cube_from.new.table c.in_err-x.ensures.made)

pub apply-requires-clause-roots : goal.apply-requires-clause-roots
unfolding CubePromise
apply-requires-clause-roots c =
    let cube = c.cube_from in
    set_roots c.args.operations.now.table.now _ _ c.requires.set cube.new.table cube.ensures.same.columns _ c.in_ok-x.ensures.made

pub apply-requires-clause-memo : goal.apply-requires-clause-memo
unfolding CubePromise
apply-requires-clause-memo c =
    let cube = c.cube_from in
    cube_holds c.args.operations.now.table.now _ _ c.requires.set cube.new.table cube.ensures.same.columns _ c.in_ok-x.ensures.made
    c.requires.memo

pub returns-clause-joined : goal.returns-clause-joined
unfolding CubePromise
returns-clause-joined c =
    let cube = c.cube_from in
    set_joined c.args.operations.now.table.now _ _ c.requires.set cube.new.table cube.ensures.same.columns _ c.in_ok-x.ensures.made
    c.apply.new.self.table.now _ c.apply.ensures.made
