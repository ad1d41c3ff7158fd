-- `words::word::first_bit` meets its contract: the lower half of the word comes first. The measure is the columns left.
use Prim.Native.Nat.{◌+◌, ◌-◌, ◌<◌}
use native.Mathlib.Omega.{arith}
use mathlib.Core.Path.{refl, subst, subst⁻¹}
use Rattle.words.specs.Contract.{answer_number, FirstBit}
use Rattle.words.proofs.Halving.{points-most, no_bit, one_bit, first_in_low, first_in_high}
use Rattle.words.proofs.word.+first_bit.Goals as goal

pub returns-then-w-eq0 : goal.returns-then-w-eq0
returns-then-w-eq0 t c = no_bit c.args.columns c.args.w c.if-w-eq0.true

pub returns-then-columns-eq0 : goal.returns-then-columns-eq0
returns-then-columns-eq0 t c =
    let a = c.args in
    subst⁻¹ (λ m. FirstBit m a.w 1) c.if-columns-eq0.true (one_bit a.w c.if-w-eq0.false)

pub overflow_shr-high : goal.overflow_shr-high
overflow_shr-high t c =
    let m = c.args.columns - 1 in
    let l : m < 6 = omega arith in
    omega (arith, points-most m l, c.points-n.ensures)

pub returns-in-Some : goal.returns-in-Some
returns-in-Some t c =
    let e = c.side in
    let p = c.points-n in
    subst (FirstBit c.args.columns c.args.w) (omega arith)
    (first_in_low c.args.columns c.args.w e.result p.result (omega arith) c.requires e.ensures p.ensures
    (c.in-Some.p + 1) c.in-Some.ensures (λ z. omega arith))

pub returns-in_err-p : goal.returns-in_err-p
returns-in_err-p t c =
    let e = c.side in
    let p = c.points-n in
    subst⁻¹ (λ o. FirstBit c.args.columns c.args.w (answer_number o)) c.from_residual.ensures
    (first_in_high c.args.columns c.args.w e.result p.result (omega arith) c.requires e.ensures p.ensures
    0 0 c.in_default.ensures refl c.in_err-p.ensures)

pub returns : goal.returns
returns t c =
    let e = c.side in
    let p = c.points-n in
    subst (FirstBit c.args.columns c.args.w) (omega arith)
    (first_in_high c.args.columns c.args.w e.result p.result (omega arith) c.requires e.ensures p.ensures
    0 (c.in_ok-p.p + 1) c.in_default.ensures refl c.in_ok-p.ensures)
