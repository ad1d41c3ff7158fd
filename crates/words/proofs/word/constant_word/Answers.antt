-- `words::word::constant_word` meets its contract: no bit, a bit for each point, or all 64.
use mathlib.Core.Path.{subst⁻¹}
use Prim.Native.Nat.{◌-◌, ◌^◌}
use native.Mathlib.Omega.{arith}
use lib.Pow.{pow_pos}
use Rattle.words.specs.Contract.{ConstantWord}
use Rattle.words.proofs.Halving.{constant-none, constant-few, constant_many}
use Rattle.words.proofs.word.constant_word.Goals as goal

pub returns-then-not-b : goal.returns-then-not-b
returns-then-not-b c =
    subst⁻¹ (λ b. ConstantWord c.args.columns b 0)
    c.if-not-b.true
    (constant-none c.args.columns)

pub overflow_sub-result : goal.overflow_sub-result
overflow_sub-result c = omega (arith, pow_pos (2 ^ c.args.columns), c.side.ensures)

pub returns-then-columns-lt6 : goal.returns-then-columns-lt6
returns-then-columns-lt6 c =
    subst⁻¹ (λ b. ConstantWord c.args.columns b (c.side.result - 1))
    c.if-not-b.false
    (constant-few c.args.columns c.side.result c.if-columns-lt6.true c.side.ensures)

pub returns : goal.returns
returns c =
    subst⁻¹ (λ b. ConstantWord c.args.columns b 18446744073709551615)
    c.if-not-b.false
    (constant_many c.args.columns c.if-columns-lt6.false)
