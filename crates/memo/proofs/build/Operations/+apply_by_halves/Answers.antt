-- `memo::build::Operations::apply` and `by_halves` meet their contracts: each call and each way out is a law of
-- `graph.Applying` or of `Remembering`.
use native.Mathlib.Omega.{arith}
use Prim.Native.Nat.{ℕ}
use Rattle.graph.proofs.Columns.{root_held, first-root, second-root}
use Rattle.graph.proofs.Lending.{read_held}
use Rattle.graph.proofs.Applying.{Promise, Halved, known_made, halved, low_twice, idle_made, low_full, high_twice, high_full}
use Rattle.memo.specs.Memo.{HoldsAfter}
use Rattle.memo.proofs.Holding.{holds-still}
use Rattle.memo.proofs.Remembering.{recalled_made, with_memo, of_memo, BothMade, node_asks, node_gives, node_held}
use Rattle.memo.proofs.build.Operations.+apply_by_halves.Goals as goal
use Rattle.memo.proofs.build.Operations.+apply_by_halves.Goals.{apply-After-split-second, by_halves-In_ok-y}

pub apply-returns-in-Some-clause-made : goal.apply-returns-in-Some-clause-made
unfolding Promise
apply-returns-in-Some-clause-made t c = known_made _ c.args.self.now.table.now _ _ _ c.requires.roots _ c.in-Some.ensures

pub apply-returns-in-Some-clause-memo : goal.apply-returns-in-Some-clause-memo
apply-returns-in-Some-clause-memo t c = holds-still _ c.requires.memo

pub apply-split-first-requires : goal.apply-split-first-requires
apply-split-first-requires t c = read_held _ _ c.reading.ensures _ (root_held (first-root c.requires.roots))

pub apply-split-second-requires : goal.apply-split-second-requires
apply-split-second-requires t c = read_held _ _ c.reading-2.ensures _ (root_held (second-root c.requires.roots))

-- Past the splits, both operands have their halves.
split-both : (t : ℕ) (c : apply-After-split-second t) → Halved c.args.op c.args.self.now.table.now c.args.k c.args.a c.args.b c.split-first.result c.split-second.result
split-both t c =
    halved _ _ _ _ _ c.requires.roots c.in_default.ensures _ _ c.reading.ensures c.reading-2.ensures
    c.split-first.ensures c.split-second.ensures

pub apply-apply-requires : goal.apply-apply-requires
apply-apply-requires t c =
    let s = split-both t (goal.at.apply-apply-requires t c).After-split-second in
    (omega (arith, c.decreases, s.more), (low_twice s, c.requires.memo))

pub apply-returns-then-second-clause-made : goal.apply-returns-then-second-clause-made
unfolding Promise
apply-returns-then-second-clause-made t c =
    idle_made (split-both t (goal.at.apply-returns-then-second-clause-made t c).After-split-second) c.apply.new.self.table.now _ c.if-first.true
    c.if-second.true c.apply.ensures.made

pub apply-returns-in-Some-recall-clause-made : goal.apply-returns-in-Some-recall-clause-made
unfolding Promise
apply-returns-in-Some-recall-clause-made t c =
    recalled_made c.args.op c.args.self.now.table.now c.requires.roots _ (c.in-Some-recall.ensures _ _ _ _ _ c.requires.memo)

pub apply-returns-in-Some-recall-clause-memo : goal.apply-returns-in-Some-recall-clause-memo
apply-returns-in-Some-recall-clause-memo t c = holds-still _ c.requires.memo

pub apply-by_halves-requires : goal.apply-by_halves-requires
apply-by_halves-requires t c =
    let s = split-both t (goal.at.apply-by_halves-requires t c).After-split-second in
    (omega (arith, c.decreases, s.more), with_memo c.args.self.now s c.requires.memo)

pub by_halves-apply-requires : goal.by_halves-apply-requires
by_halves-apply-requires t c =
    (omega (arith, c.decreases, c.requires.column), (low_twice (of_memo c.args.op c.args.self.now c.requires), c.requires.holds))

pub by_halves-returns-in_err-x-clause-made : goal.by_halves-returns-in_err-x-clause-made
unfolding Promise
by_halves-returns-in_err-x-clause-made t c =
    rw c.from_residual.ensures (low_full (of_memo c.args.op c.args.self.now c.requires) c.apply.new.self.table.now c.in_err-x.ensures.made)

pub by_halves-apply-requires-2 : goal.by_halves-apply-requires-2
unfolding Promise HoldsAfter
by_halves-apply-requires-2 t c =
    let low = c.apply in (
      omega (arith, c.decreases, c.requires.column, low.ensures.same.slices.columns),
      (high_twice (of_memo c.args.op c.args.self.now c.requires) low.new.self.table.now low.ensures.same.slices.columns _ c.in_ok-x.ensures.made, c.in_ok-x.ensures.memo),
    )

pub by_halves-returns-in_err-y-clause-made : goal.by_halves-returns-in_err-y-clause-made
unfolding Promise
by_halves-returns-in_err-y-clause-made t c =
    let low = c.apply in
    rw c.from_residual-in_err-y.ensures
    (high_full (of_memo c.args.op c.args.self.now c.requires) low.new.self.table.now low.ensures.same.slices.columns _ c.in_ok-x.ensures.made
    c.apply-2.new.self.table.now c.in_err-y.ensures.made)

-- Past both calls, the results of both halves are made.
both_made : (t : ℕ) (c : by_halves-In_ok-y t) →
    BothMade c.args.op c.args.self.now.table.now c.args.k c.args.a c.args.b c.args.first c.args.second c.apply.new.self.table.now c.apply-2.new.self.table.now c.in_ok-x.x c.in_ok-y.y
unfolding Promise
both_made t c =
    record {
      split = of_memo c.args.op c.args.self.now c.requires;
      low-columns = c.apply.ensures.same.slices.columns;
      low = c.in_ok-x.ensures.made;
      high-columns = c.apply-2.ensures.same.slices.columns;
      high = c.in_ok-y.ensures.made;
    }

pub by_halves-make-requires : goal.by_halves-make-requires
by_halves-make-requires t c = node_asks (both_made t (goal.at.by_halves-make-requires t c).In_ok-y)

pub by_halves-returns-in_err-z-clause-made : goal.by_halves-returns-in_err-z-clause-made
unfolding Promise
by_halves-returns-in_err-z-clause-made t c =
    rw c.from_residual-in_err-z.ensures
    (node_gives (both_made t (goal.at.by_halves-returns-in_err-z-clause-made t c).In_ok-y) c.make.new.self _ c.in_err-z.ensures.made)

pub by_halves-returns-in_err-z-clause-memo : goal.by_halves-returns-in_err-z-clause-memo
unfolding HoldsAfter
by_halves-returns-in_err-z-clause-memo t c = rw c.from_residual-in_err-z.ensures tt

pub by_halves-returns-clause-made : goal.by_halves-returns-clause-made
unfolding Promise
by_halves-returns-clause-made t c = node_gives (both_made t (goal.at.by_halves-returns-clause-made t c).In_ok-y) c.make.new.self _ c.in_ok-z.ensures.made

pub by_halves-returns-clause-memo : goal.by_halves-returns-clause-memo
unfolding HoldsAfter
by_halves-returns-clause-memo t c =
    node_held (both_made t (goal.at.by_halves-returns-clause-memo t c).In_ok-y) c.make.new.self _ c.make.ensures.same.columns
    c.in_ok-z.ensures.made c.in_ok-y.ensures.memo c.remember.ensures
