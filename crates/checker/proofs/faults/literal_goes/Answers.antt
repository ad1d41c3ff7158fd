-- `checker::faults::literal_goes` meets its contract: a dash cannot go, and a literal goes if the turned cube covers no off point.
use mathlib.Core.Path.{ap, ap₂, ◌∙◌, subst, subst⁻¹}
use Prim.Native.Nat.{◌/◌, ◌^◌}
use mathlib.Core.Bool.{◌||◌}
use lib.Bits.{bit_xor}
use Rattle.rule.specs.Point.{odd}
use Rattle.words.specs.Contract.{answer_number, FirstIn}
use Rattle.words.proofs.Answers.{answer-is_none}
use Rattle.checker.specs.Contract.{GoesFound}
use Rattle.checker.proofs.Finding.{goes_not, goes_by}
use Rattle.checker.proofs.faults.literal_goes.Goals as goal

pub returns-then-has_literal : goal.returns-then-has_literal
returns-then-has_literal c =
    let a = c.args in
    let f = c.from-cube.ensures in
    let o = c.turned.ensures.ones ∙ ap (λ x. bit_xor x (2 ^ a.k)) f.ones in
    let z = c.turned.ensures.zeros ∙ ap (λ x. bit_xor x (2 ^ a.k)) f.zeros in
    subst⁻¹ (GoesFound a.columns a.off.now a.cube a.k) (answer-is_none c.first_in.result c.is_none.result c.is_none.ensures)
    (goes_by a.columns a.k a.cube a.off.now c.has_literal.result c.requires.column
    (c.has_literal.ensures ∙ ap₂ (λ x y. odd (x / 2 ^ a.k) || odd (y / 2 ^ a.k)) f.ones f.zeros)
    (answer_number c.first_in.result) c.if-has_literal.true
    (subst (λ x. FirstIn a.columns x (bit_xor (a.cube / 65536) (2 ^ a.k)) a.off.now (answer_number c.first_in.result)) o
    (subst (λ y. FirstIn a.columns c.turned.result.ones y a.off.now (answer_number c.first_in.result)) z c.first_in.ensures)))

pub returns-else-has_literal : goal.returns-else-has_literal
returns-else-has_literal c =
    let a = c.args in
    let f = c.from-cube.ensures in
    subst⁻¹ (GoesFound a.columns a.off.now a.cube a.k) c.if-has_literal.false
    (goes_not a.columns a.k a.cube a.off.now c.has_literal.result c.requires.column
    (c.has_literal.ensures ∙ ap₂ (λ x y. odd (x / 2 ^ a.k) || odd (y / 2 ^ a.k)) f.ones f.zeros) c.if-has_literal.false)
