-- `line::number::read_number` meets its contract. The loop's invariant: the value so far and what is left of the digits give the whole
-- answer, and the value stays below the power of ten of the digits passed.
use Rattle.std.proofs.Common.{◌≡◌, ◌<◌, ◌^◌, drop}
use Rattle.line.specs.Decimal.{number}
use Rattle.line.proofs.Digits.{number_after}
use Rattle.line.proofs.number.read_number.Given as goal

abbrev pub invariant-loop-b : goal.invariant-loop-b
invariant-loop-b l = (l.value < 10 ^ l.b-index) × (number_after l.value (drop l.b-index l.f) ≡ number l.f)
