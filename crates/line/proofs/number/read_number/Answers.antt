-- `line::number::read_number` meets its contract: each digit takes one byte of what is left.
use Rattle.std.proofs.Common.{rules, sym, ap, ◌∙◌, ◌+◌, ◌*◌, get_or, drop, arith}
use Rattle.line.specs.Decimal.{is_digit}
use Rattle.line.proofs.Digits.{number_after, wrong_length, number-after, no_digit, a_digit, last_digit, more-digits, five_digits, digit_bound}
use Rattle.line.proofs.number.read_number.Goals as goal

pub returns-then-is_empty : goal.returns-then-is_empty
returns-then-is_empty c = wrong_length c.args.f.now (search rules)

pub loop-b-init : goal.loop-b-init
loop-b-init c = (omega arith, number-after c.args.f.now (search rules) c.if-f-gt5.false)

pub returns-then-not-is_ascii_digit : goal.returns-then-not-is_ascii_digit
unfolding is_digit
returns-then-not-is_ascii_digit c = let l = c.loop-b in
    let e = sym c.if-not-is_ascii_digit.ensures.value in
    sym (no_digit c.args.f.now l.value l.b-index c.loop-b-test.true e) ∙ l.invariant.1

pub overflow_mul-value : goal.overflow_mul-value
overflow_mul-value c = omega (arith, five_digits c.loop-b.value c.loop-b.b-index c.loop-b.invariant.0 (omega arith))

pub overflow_add-value : goal.overflow_add-value
unfolding is_digit
overflow_add-value c = let e = sym c.if-not-is_ascii_digit.ensures.value in
    omega (arith, five_digits c.loop-b.value c.loop-b.b-index c.loop-b.invariant.0 (omega arith), digit_bound (get_or c.args.f.now c.loop-b.b-index 0) e, c.from.ensures)

pub loop-b-preserved : goal.loop-b-preserved
unfolding is_digit
loop-b-preserved c = let l = c.loop-b in
    let e = sym c.if-not-is_ascii_digit.ensures.value in
    let k = digit_bound (get_or c.args.f.now l.b-index 0) e in (
      more-digits l.value l.b-index c.from.result l.invariant.0 (omega (arith, c.from.ensures, k)),
      ap (λ d. number_after (10 * l.value + d) (drop (l.b-index + 1) c.args.f.now)) c.from.ensures ∙
          sym (a_digit c.args.f.now l.value l.b-index c.loop-b-test.true e) ∙ l.invariant.1,
    )

pub returns : goal.returns
returns c = sym (last_digit c.args.f.now c.loop-b.value c.loop-b.b-index c.loop-b-test.false) ∙ c.loop-b.invariant.1
