-- `rows::cube::cube_from` meets its contract: each call and each way out is a law of `Cubes`. The measure is the columns left.
use native.Mathlib.Omega.{arith}
use Rattle.rows.proofs.Cubes.{CubePromise, end_made, next-root, rest_full, one_halves, one_made, zero_halves, zero_made, dash_made}
use Rattle.rows.proofs.cube.+cube_from.Goals as goal

pub returns-then-k-table-clause-made : goal.returns-then-k-table-clause-made
unfolding CubePromise
returns-then-k-table-clause-made t c = end_made c.args.table.now _ _ _ c.requires c.if-k-table.true

pub cube_from-requires : goal.cube_from-requires
cube_from-requires t c =
    let p = next-root c.args.table.now _ c.args.ones c.args.zeros c.requires c.if-k-table.false in
    (omega (arith, c.decreases, p.column), p)

pub returns-in_err-x-clause-made : goal.returns-in_err-x-clause-made
unfolding CubePromise
returns-in_err-x-clause-made t c =
    rw c.from_residual.ensures (rest_full c.args.table.now _ _ _ c.requires c.if-k-table.false c.cube_from.new.table c.in_err-x.ensures.made)

pub make-requires : goal.make-requires
unfolding CubePromise
make-requires t c =
    let rest = c.cube_from in
    one_halves c.args.table.now _ _ _ c.requires c.if-k-table.false rest.new.table rest.ensures.same.columns _ c.in_ok-x.ensures.made

pub returns-then-ones-eq1-clause-made : goal.returns-then-ones-eq1-clause-made
unfolding CubePromise
returns-then-ones-eq1-clause-made t c =
    let rest = c.cube_from in
    one_made c.args.table.now _ _ _ c.requires c.if-k-table.false rest.new.table rest.ensures.same.columns _ c.in_ok-x.ensures.made
    c.if-ones-eq1.true c.make.new.self _ c.make.ensures.made

pub make-requires-then-zeros-eq1 : goal.make-requires-then-zeros-eq1
unfolding CubePromise
make-requires-then-zeros-eq1 t c =
    let rest = c.cube_from in
    zero_halves c.args.table.now _ _ _ c.requires c.if-k-table.false rest.new.table rest.ensures.same.columns _ c.in_ok-x.ensures.made

pub returns-then-zeros-eq1-clause-made : goal.returns-then-zeros-eq1-clause-made
unfolding CubePromise
returns-then-zeros-eq1-clause-made t c =
    let rest = c.cube_from in
    zero_made c.args.table.now _ _ _ c.requires c.if-k-table.false rest.new.table rest.ensures.same.columns _ c.in_ok-x.ensures.made
    c.if-ones-eq1.false c.if-zeros-eq1.true c.make-then-zeros-eq1.new.self _ c.make-then-zeros-eq1.ensures.made

pub returns-clause-made : goal.returns-clause-made
unfolding CubePromise
returns-clause-made t c =
    dash_made c.args.table.now _ _ _ c.requires c.if-k-table.false c.cube_from.new.table c.if-ones-eq1.false c.if-zeros-eq1.false _
    c.in_ok-x.ensures.made
