-- `text::writer::Writer::number` meets its contract: a number's digits are its tenth's and its last one. The measure is the number.
use native.Mathlib.Omega.{arith}
use Rattle.text.proofs.Room.{put-kept}
use Rattle.text.proofs.Numerals.{one_digit, digit-more, put_one, put_last}
use Rattle.text.proofs.writer.Writer.+number.Goals as goal
use Rattle.text.proofs.writer.Writer.+number.Goals.{then-n-ge10, else-n-ge10}

pub number-requires : goal.number-requires
number-requires t c = (omega arith, omega (arith, digit-more c.args.n c.if-n-ge10.true (omega arith)))

pub byte-requires : goal.byte-requires
byte-requires t c = elim c.if-n-ge10.branch [
  | then-n-ge10 w ↦ rw w.self-is (omega (arith, digit-more c.args.n w.if-n-ge10.true (omega arith), put-kept w.number.ensures.put, w.number.ensures.put.next))
  | else-n-ge10 w ↦ rw w.self-is (omega (arith, one_digit c.args.n w.if-n-ge10.false))
]

pub returns-clause-put : goal.returns-clause-put
returns-clause-put t c = elim c.if-n-ge10.branch [
  | then-n-ge10 w ↦ put_last w.if-n-ge10.true (omega arith) w.number.ensures.put (rw w.self-is at c.byte.ensures.put)
  | else-n-ge10 w ↦ put_one w.if-n-ge10.false (rw w.self-is at c.byte.ensures.put)
]
