-- `line::scan::line_at` meets its contract.
use mathlib.Core.Path.{ap, ◌∙◌}
use Rattle.line.specs.Bytes.{until, is_newline}
use Rattle.line.specs.Scan.{test_of}
use Rattle.line.proofs.Runs.{take_rest}
use Rattle.line.proofs.scan.line_at.Goals as goal

pub returns : goal.returns
unfolding test_of
returns c = c.before_first.ensures ∙ ap (until is_newline) (take_rest c.args.text.now c.args.at)
