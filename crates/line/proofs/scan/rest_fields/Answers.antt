-- `line::scan::rest_fields` meets its contract.
use mathlib.Core.Path.{ap, ◌∙◌}
use Rattle.line.specs.Bytes.{from, is_blank}
use Rattle.line.specs.Scan.{test_of, rest_fields}
use Rattle.line.proofs.scan.rest_fields.Goals as goal

pub returns : goal.returns
unfolding test_of rest_fields
returns c = c.from_first.ensures ∙ ap (from is_blank) c.from_first-t.ensures
