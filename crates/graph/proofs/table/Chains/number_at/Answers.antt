-- `graph::table::Chains::number_at` meets its contract. The loop's invariant: the records past place x are not the one, and the
-- record before it is in the bucket. The measure is x.
use mathlib.Core.Path.{sym, ap, ◌∙◌}
use native.Mathlib.Omega.{arith}
use lib.ListN.{get_or}
use Rattle.rule.specs.Refusal.{some_number}
use Rattle.rule.proofs.Refusals.{some_some_number}
use Rattle.graph.specs.Chain.{bucket_of}
use Rattle.graph.proofs.Tests.{is-record}
use Rattle.graph.proofs.Reading.{found_here, none_to_find}
use Rattle.graph.proofs.Chains.{bucket_bound, within-buckets, walk_begins, walk_on}
use Rattle.graph.proofs.table.Chains.number_at.Goals as goal

pub offset_bounds-self-bucket_of : goal.offset_bounds-self-bucket_of
offset_bounds-self-bucket_of c = omega (arith, within-buckets _ _ _ _ c.bucket_of.ensures)

pub bounds-self-bucket_of : goal.bounds-self-bucket_of
bounds-self-bucket_of c = within-buckets _ _ _ _ c.bucket_of.ensures

pub loop-x-init : goal.loop-x-init
loop-x-init c =
    walk_begins _ _ _ _ _ _
    (ap (λ b. get_or c.args.self.now.last b 0) c.bucket_of.ensures ∙ c.requires.heads (bucket_of c.args.v c.args.l c.args.h) (bucket_bound _ _ _))

pub returns-then-is_record : goal.returns-then-is_record
returns-then-is_record c =
    let here = is-record _ _ _ _ _ (sym c.is_record.ensures ∙ c.if-is_record.true) in
    sym
    (ap some_number (c.loop-x.invariant.decides ∙ found_here _ _ _ _ _ c.loop-x-test.true here) ∙ some_some_number _ (omega arith))

pub loop-x-smaller : goal.loop-x-smaller
loop-x-smaller c = (walk_on _ _ _ _ _ _ _ c.loop-x-test.true c.loop-x.invariant (sym c.is_record.ensures ∙ c.if-is_record.false) (c.requires.links _ (omega (arith, c.loop-x-test.true, c.loop-x.invariant.within)))).0

pub loop-x-preserved : goal.loop-x-preserved
loop-x-preserved c = (walk_on _ _ _ _ _ _ _ c.loop-x-test.true c.loop-x.invariant (sym c.is_record.ensures ∙ c.if-is_record.false) (c.requires.links _ (omega (arith, c.loop-x-test.true, c.loop-x.invariant.within)))).1

pub returns : goal.returns
returns c = sym (ap some_number (c.loop-x.invariant.decides ∙ none_to_find _ _ _ _ _ c.loop-x-test.false))
