-- `text::function::build_function` meets its contract: each way out is a law of `Settling`.
use Rattle.text.specs.Function.{RootsNamedIn, BuiltOf}
use Rattle.text.proofs.Settling.{roots_lack, both_in_use, whole-contradicts, whole-built, roots_to_read, read_within}
use Rattle.text.proofs.function.build_function.Goals as goal

pub returns-in_default-clause-built : goal.returns-in_default-clause-built
unfolding RootsNamedIn BuiltOf
returns-in_default-clause-built c =
    rw (c.into.ensures.0, c.into.ensures.1)
    (roots_lack _ _ _ _ _ _ _ (rw c.in_default.is at c.name_roots.ensures.roots))

pub within_from-requires : goal.within_from-requires
unfolding RootsNamedIn
within_from-requires c =
    roots_to_read c.name_roots.new.table c.reading.result c.reading.ensures c.name_roots.ensures.same.columns _ _
    (both_in_use (rw c.in-Some.is at c.name_roots.ensures.roots))

pub returns-then-not-within_from-clause-built : goal.returns-then-not-within_from-clause-built
unfolding RootsNamedIn BuiltOf
returns-then-not-within_from-clause-built c =
    let f = read_within c.name_roots.new.table c.reading.result c.reading.ensures c.name_roots.ensures.same.columns _ _ _ c.within_from.ensures in
    rw (c.into-then-not-within_from.ensures.0, c.into-then-not-within_from.ensures.1)
    (whole-contradicts (rw c.in-Some.is at c.name_roots.ensures.roots) _ f c.if-not-within_from.true)

pub returns-clause-built : goal.returns-clause-built
unfolding RootsNamedIn BuiltOf
returns-clause-built c =
    let f = read_within c.name_roots.new.table c.reading.result c.reading.ensures c.name_roots.ensures.same.columns _ _ _ c.within_from.ensures in
    rw c.name_roots.ensures.same.columns (whole-built (rw c.in-Some.is at c.name_roots.ensures.roots) _ f c.if-not-within_from.false)
