-- The loop of `nodes::apart::Apart::store`: the first numbers of each array are copied over the first part of the row.
use Rattle.std.proofs.Common.{◌≡◌, take}
use Rattle.nodes.specs.Row.{levels, lows, highs}
use Rattle.nodes.proofs.Copying.{copied}
use Rattle.nodes.proofs.apart.Apart.store.Given as goal

abbrev pub invariant-loop-i : goal.invariant-loop-i
invariant-loop-i l = record {
  level : levels l.first ≡ copied 0 l.self.level (levels (take l.size l.fn.nodes)) l.i;
  low : lows l.first ≡ copied 0 l.self.low (lows (take l.size l.fn.nodes)) l.i;
  high : highs l.first ≡ copied 0 l.self.high (highs (take l.size l.fn.nodes)) l.i;
}
