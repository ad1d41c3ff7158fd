-- `text::writing::digit_count` meets its contract: each range bounds the number by one more digit.
use mathlib.Core.Path.{sym}
use native.Mathlib.Omega.{arith}
use Rattle.line.proofs.Decimal.{length_one, length_two, length_three, length_four, length_five}
use Rattle.text.proofs.writing.digit_count.Goals as goal

pub returns-in-0-to-9 : goal.returns-in-0-to-9
returns-in-0-to-9 c = sym (length_one c.args.n (omega arith))

pub returns-in-10-to-99 : goal.returns-in-10-to-99
returns-in-10-to-99 c = sym (length_two c.args.n (omega arith) (omega arith))

pub returns-in-100-to-999 : goal.returns-in-100-to-999
returns-in-100-to-999 c = sym (length_three c.args.n (omega arith) (omega arith))

pub returns-in-1000-to-9999 : goal.returns-in-1000-to-9999
returns-in-1000-to-9999 c = sym (length_four c.args.n (omega arith) (omega arith))

pub returns-in_default : goal.returns-in_default
returns-in_default c = sym (length_five c.args.n (omega arith) c.requires)
