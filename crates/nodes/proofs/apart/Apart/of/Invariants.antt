-- The loop of `nodes::apart::Apart::of`: the first numbers of each field are copied over zeros.
use Rattle.std.proofs.Common.{◌≡◌, replicate}
use Rattle.nodes.specs.Row.{levels, lows, highs}
use Rattle.nodes.proofs.Copying.{copied}
use Rattle.nodes.proofs.apart.Apart.of.Given as goal

abbrev pub invariant-loop-i : goal.invariant-loop-i
invariant-loop-i l = record {
  level : l.apart.level ≡ copied 0 (levels l.fn.nodes) (replicate 4096 0) l.i;
  low : l.apart.low ≡ copied 0 (lows l.fn.nodes) (replicate 4096 0) l.i;
  high : l.apart.high ≡ copied 0 (highs l.fn.nodes) (replicate 4096 0) l.i;
}
