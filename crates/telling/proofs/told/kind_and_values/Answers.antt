-- `told::kind_and_values` meets its contract: each arm tells its own case of the verdict.
use Rattle.std.proofs.Common.{◌≡◌, ap, Ok, Err, rules}
use Rattle.checker.specs.declared.fault.Fault.TheVariants.{Off, Missing, Literal, Cube}
use Rattle.telling.proofs.Telling.{accept-told, off-told, missing-told, literal-told, cube-told}
use Rattle.telling.proofs.told.kind_and_values.Goals as goal

pub returns-in-Ok : goal.returns-in-Ok
returns-in-Ok c = (accept-told (ap Ok c.in-Ok.is)).numbers

pub returns-in-Err-Off : goal.returns-in-Err-Off
returns-in-Err-Off c =
    let e : c.args.verdict ≡ Err (Off c.in-Err-Off.cube c.in-Err-Off.point) = search rules in
    (off-told (ap Ok e)).numbers

pub returns-in-Err-Missing : goal.returns-in-Err-Missing
returns-in-Err-Missing c =
    let e : c.args.verdict ≡ Err (Missing c.in-Err-Missing.point) = search rules in
    (missing-told (ap Ok e)).numbers

pub returns-in-Err-Literal : goal.returns-in-Err-Literal
returns-in-Err-Literal c =
    let e : c.args.verdict ≡ Err (Literal c.in-Err-Literal.cube c.in-Err-Literal.column) = search rules in
    (literal-told (ap Ok e)).numbers

pub returns-in-Err-Cube : goal.returns-in-Err-Cube
returns-in-Err-Cube c =
    let e : c.args.verdict ≡ Err (Cube c.in-Err-Cube.cube) = search rules in
    (cube-told (ap Ok e)).numbers
