-- `line::scan::first_field` meets its contract.
use mathlib.Core.Path.{ap, ◌∙◌}
use Rattle.line.specs.Bytes.{until, is_blank}
use Rattle.line.specs.Scan.{test_of, first_field}
use Rattle.line.proofs.scan.first_field.Goals as goal

pub returns : goal.returns
unfolding test_of first_field
returns c = c.before_first.ensures ∙ ap (until is_blank) c.from_first-t.ensures
