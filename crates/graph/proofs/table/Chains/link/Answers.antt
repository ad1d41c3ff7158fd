-- `graph::table::Chains::link` meets its contract: one record more is on its chain.
use native.Mathlib.Omega.{arith}
use Rattle.graph.specs.Table.{table_of}
use Rattle.graph.specs.Chain.{bucket_at}
use Rattle.graph.proofs.Chains.{within-buckets, chained_by}
use Rattle.graph.proofs.table.Chains.link.Goals as goal

pub offset_bounds-self-b : goal.offset_bounds-self-b
offset_bounds-self-b c = omega (arith, within-buckets _ _ _ _ c.bucket_of-b.ensures)

pub bounds-self-b : goal.bounds-self-b
bounds-self-b c = within-buckets _ _ _ _ c.bucket_of-b.ensures

pub offset_bounds-self-b-2 : goal.offset_bounds-self-b-2
offset_bounds-self-b-2 c = omega (arith, within-buckets _ _ _ _ c.bucket_of-b.ensures)

pub bounds-self-b-2 : goal.bounds-self-b-2
bounds-self-b-2 c = within-buckets _ _ _ _ c.bucket_of-b.ensures

pub returns : goal.returns
unfolding bucket_at table_of
returns c = chained_by _ _ _ _ _ _ c.requires _ c.bucket_of-b.ensures
