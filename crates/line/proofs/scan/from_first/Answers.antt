-- `line::scan::from_first` meets its contract: what comes after the run is the whole without its length.
use Rattle.std.proofs.Common.{ap, ◌∙◌, drop, arith}
use Rattle.line.specs.Scan.{test_of}
use Rattle.line.proofs.Runs.{take_rest, until-within, drop_until}
use Rattle.line.proofs.scan.from_first.Goals as goal

pub slice_bounds-result-count : goal.slice_bounds-result-count
slice_bounds-result-count c = omega (arith, until-within (test_of c.args.what) c.args.s.now, c.run_length-n.ensures)

pub slice_bounds-result-start : goal.slice_bounds-result-start
slice_bounds-result-start c = omega (arith, until-within (test_of c.args.what) c.args.s.now, c.run_length-n.ensures)

pub returns : goal.returns
returns c = take_rest c.args.s.now c.run_length-n.result ∙ ap (λ k. drop k c.args.s.now) c.run_length-n.ensures ∙ drop_until (test_of c.args.what) c.args.s.now
