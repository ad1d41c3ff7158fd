-- `line::meaning::cube_of` meets its contract. The loop's invariant: the signs left, before the number of those passed, give the whole.
use Rattle.std.proofs.Common.{◌≡◌}
use Rattle.rule.specs.Number.{cube_number}
use Rattle.line.specs.Meaning.{read_cube}
use Rattle.line.proofs.Signs.{number_before}
use Rattle.line.proofs.meaning.cube_of.Given as goal

abbrev pub invariant-loop-b : goal.invariant-loop-b
invariant-loop-b l = number_before l.b-iterator.iter.rest.now l.x ≡ cube_number (read_cube l.a)
