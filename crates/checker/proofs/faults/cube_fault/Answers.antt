-- `checker::faults::cube_fault` meets its contract. The loop's invariant: no cube before `i` can go.
use mathlib.Core.Path.{sym, ◌∙◌}
use native.Mathlib.Omega.{arith}
use borrow.Author.Tests.{eqb-true, eqb-false}
use Rattle.words.specs.Contract.{answer_number}
use Rattle.words.proofs.Answers.{answer-is_none}
use Rattle.checker.proofs.Finding.{cube-start, cube-next, cube-here, cube_end}
use Rattle.checker.proofs.faults.cube_fault.Goals as goal

pub loop-i-init : goal.loop-i-init
loop-i-init c = cube-start _ _ _

pub returns-then-is_none : goal.returns-then-is_none
returns-then-is_none c =
    let e = eqb-true (answer_number c.search.result) 0 (sym (answer-is_none c.search.result c.is_none.result c.is_none.ensures) ∙ c.if-is_none.true) in
    record { fault = cube-here c.args.columns c.args.lone.now c.args.list.now c.loop-i.i (answer_number c.search.result) c.loop-i.invariant (omega arith) c.search.ensures e }

pub loop-i-preserved : goal.loop-i-preserved
loop-i-preserved c =
    let e = eqb-false (answer_number c.search.result) 0 (sym (answer-is_none c.search.result c.is_none.result c.is_none.ensures) ∙ c.if-is_none.false) in
    cube-next c.args.columns c.args.lone.now c.args.list.now c.loop-i.i (answer_number c.search.result) c.loop-i.invariant (omega arith) c.search.ensures e

pub returns : goal.returns
returns c = record { fault = cube_end c.args.columns c.args.lone.now c.args.list.now c.loop-i.i c.loop-i.invariant (omega arith) }
