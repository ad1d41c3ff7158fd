-- `Generator::generate_at` and `Generator::expand` meet their contracts. The measure is twice the columns left, and one more
-- before a step is expanded.
use Prim.Native.Nat.{◌+◌, ◌-◌, ◌*◌}
use Rattle.list.proofs.generator.Generator.+expand_generate_at.Given as goal

abbrev pub decreases-expand : goal.decreases-expand
decreases-expand l = 2 * (l.self.now.operations.now.table.now.columns - l.path.k)

abbrev pub decreases-generate_at : goal.decreases-generate_at
decreases-generate_at l = 2 * (l.self.now.operations.now.table.now.columns - l.path.k) + 1
