-- `rows::naming::name_row` meets its contract: each way out is a law of `Names`.
use Rattle.rows.proofs.Names.{row_nothing, on_full, on-done, other_full, other_done}
use Rattle.rows.proofs.naming.name_row.Goals as goal

pub returns-in_err-on-in-Some-On-clause-named : goal.returns-in_err-on-in-Some-On-clause-named
returns-in_err-on-in-Some-On-clause-named c =
    rw c.from_residual.ensures
    (on_full c.args.operations.now c.args.kind c.args.sets c.args.cube c.args.out c.join_cube.new.operations
    (rw c.in-Some-On.field-0-is at c.in-Some-On.ensures) c.in_err-on-in-Some-On.ensures.joined)

pub returns-in_err-other-in-Some-Other-clause-named : goal.returns-in_err-other-in-Some-Other-clause-named
returns-in_err-other-in-Some-Other-clause-named c =
    rw c.from_residual-in_err-other-in-Some-Other.ensures
    (other_full c.args.operations.now c.args.kind c.args.sets c.args.cube c.args.out c.join_cube-in-Some-Other.new.operations
    (rw c.in-Some-Other.field-0-is at c.in-Some-Other.ensures) c.in_err-other-in-Some-Other.ensures.joined)

pub returns-in_ok-on-in-Some-On-clause-named : goal.returns-in_ok-on-in-Some-On-clause-named
returns-in_ok-on-in-Some-On-clause-named c =
    on-done c.args.operations.now c.args.kind c.args.sets c.args.cube c.args.out c.join_cube.new.operations
    (rw c.in-Some-On.field-0-is at c.in-Some-On.ensures) _ c.in_ok-on-in-Some-On.ensures.joined

pub returns-in_ok-other-in-Some-Other-clause-named : goal.returns-in_ok-other-in-Some-Other-clause-named
returns-in_ok-other-in-Some-Other-clause-named c =
    other_done c.args.operations.now c.args.kind c.args.sets c.args.cube c.args.out c.join_cube-in-Some-Other.new.operations
    (rw c.in-Some-Other.field-0-is at c.in-Some-Other.ensures) _ c.in_ok-other-in-Some-Other.ensures.joined

pub returns-in-None-clause-named : goal.returns-in-None-clause-named
returns-in-None-clause-named c =
    row_nothing c.args.operations.now c.args.kind c.args.sets c.args.cube c.args.out c.in-None.ensures
