-- `line::scan::before_first` meets its contract: the run is the front part of its length.
use Rattle.std.proofs.Common.{ap, ◌∙◌, take, arith, length-take}
use Rattle.line.specs.Scan.{test_of}
use Rattle.line.proofs.Runs.{until-within, take_until}
use Rattle.line.proofs.scan.before_first.Goals as goal

pub slice_bounds-result-end : goal.slice_bounds-result-end
slice_bounds-result-end c = omega (arith, length-take c.run_length-n.result c.args.s.now, until-within (test_of c.args.what) c.args.s.now, c.run_length-n.ensures)

pub returns : goal.returns
returns c = ap (λ k. take k c.args.s.now) c.run_length-n.ensures ∙ take_until (test_of c.args.what) c.args.s.now
