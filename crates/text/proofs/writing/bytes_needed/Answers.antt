-- `text::writing::bytes_needed` meets its contract: the sum is the text's length, and every part of it is small.
use native.Mathlib.Omega.{arith}
use lib.ListN.{length}
use Rattle.line.proofs.Decimal.{length-decimal}
use Rattle.text.proofs.Written.{length_text, few_bytes}
use Rattle.text.proofs.writing.bytes_needed.Goals as goal

pub overflow_add-result : goal.overflow_add-result
overflow_add-result c = omega (arith, length-decimal c.args.columns)

pub overflow_add-result-2 : goal.overflow_add-result-2
overflow_add-result-2 c = omega (arith, length-decimal c.args.columns, length-decimal (length c.args.list.now))

pub overflow_add-result-4 : goal.overflow_add-result-4
overflow_add-result-4 c =
    omega (
      arith,
      length-decimal c.args.columns,
      length-decimal (length c.args.list.now),
      few_bytes c.args.columns c.args.list.now (omega arith) (omega arith),
    )

pub returns : goal.returns
returns c = omega (arith, length_text c.args.columns c.args.list.now)
