-- `graph::build::TableMut::apply` meets its contract: each call and each way out is a law of `Applying`. The measure is the
-- columns left.
use native.Mathlib.Omega.{arith}
use Prim.Native.Nat.{ℕ}
use Rattle.graph.proofs.Columns.{root_held, first-root, second-root}
use Rattle.graph.proofs.Lending.{read_held}
use Rattle.graph.proofs.Applying.{Promise, Halved, known_made, halved, low_twice, idle_made, low_full, high_twice, high_full, both_halves, node_made}
use Rattle.graph.proofs.build.TableMut.+apply.Goals as goal
use Rattle.graph.proofs.build.TableMut.+apply.Goals.{After-split-second}

pub returns-in-Some-clause-made : goal.returns-in-Some-clause-made
unfolding Promise
returns-in-Some-clause-made t c = known_made _ c.args.self.now _ _ _ c.requires _ c.in-Some.ensures

pub split-first-requires : goal.split-first-requires
split-first-requires t c = read_held _ _ c.reading.ensures _ (root_held (first-root c.requires))

pub split-second-requires : goal.split-second-requires
split-second-requires t c = read_held _ _ c.reading-2.ensures _ (root_held (second-root c.requires))

-- Past the splits, both operands have their halves.
split-both : (t : ℕ) (c : After-split-second t) → Halved c.args.op c.args.self.now c.args.k c.args.a c.args.b c.split-first.result c.split-second.result
split-both t c =
    halved _ _ _ _ _ c.requires c.in_default.ensures _ _ c.reading.ensures c.reading-2.ensures
    c.split-first.ensures c.split-second.ensures

pub apply-requires : goal.apply-requires
apply-requires t c =
    let s = split-both t (goal.at.apply-requires t c).After-split-second in
    (omega (arith, c.decreases, s.more), low_twice s)

pub returns-then-second-clause-made : goal.returns-then-second-clause-made
unfolding Promise
returns-then-second-clause-made t c =
    idle_made (split-both t (goal.at.returns-then-second-clause-made t c).After-split-second) c.apply.new.self _ c.if-first.true
    c.if-second.true c.apply.ensures.made

pub apply-requires-2 : goal.apply-requires-2
apply-requires-2 t c =
    let s = split-both t (goal.at.apply-requires-2 t c).After-split-second in
    (omega (arith, c.decreases, s.more), low_twice s)

pub returns-in_err-x-clause-made : goal.returns-in_err-x-clause-made
unfolding Promise
returns-in_err-x-clause-made t c =
    let s = split-both t (goal.at.returns-in_err-x-clause-made t c).After-split-second in
    rw c.from_residual.ensures (low_full s c.apply-2.new.self c.in_err-x.ensures.made)

pub apply-requires-3 : goal.apply-requires-3
unfolding Promise
apply-requires-3 t c =
    let s = split-both t (goal.at.apply-requires-3 t c).After-split-second in
    let low = c.apply-2 in
    (omega (arith, c.decreases, s.more, low.ensures.same.columns), high_twice s low.new.self low.ensures.same.columns _ c.in_ok-x.ensures.made)

pub returns-in_err-y-clause-made : goal.returns-in_err-y-clause-made
unfolding Promise
returns-in_err-y-clause-made t c =
    let s = split-both t (goal.at.returns-in_err-y-clause-made t c).After-split-second in
    let low = c.apply-2 in
    rw c.from_residual-in_err-y.ensures
    (high_full s low.new.self low.ensures.same.columns _ c.in_ok-x.ensures.made c.apply-3.new.self c.in_err-y.ensures.made)

pub make-requires : goal.make-requires
unfolding Promise
make-requires t c =
    let s = split-both t (goal.at.make-requires t c).After-split-second in
    let low = c.apply-2 in
    let high = c.apply-3 in
    both_halves s low.new.self low.ensures.same.columns _ c.in_ok-x.ensures.made high.new.self high.ensures.same.columns _ c.in_ok-y.ensures.made

pub returns-clause-made : goal.returns-clause-made
unfolding Promise
returns-clause-made t c =
    let s = split-both t (goal.at.returns-clause-made t c).After-split-second in
    let low = c.apply-2 in
    let high = c.apply-3 in
    node_made s low.new.self low.ensures.same.columns _ c.in_ok-x.ensures.made high.new.self high.ensures.same.columns _ c.in_ok-y.ensures.made
    c.make.new.self _ c.make.ensures.made
