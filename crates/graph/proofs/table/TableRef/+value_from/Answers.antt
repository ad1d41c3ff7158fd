-- `graph::table::TableRef::value_from` meets its contract: at the last column the number is a constant, before it the half for
-- the point's next digit has the value. The measure is the columns left.
use native.Mathlib.Omega.{arith}
use Rattle.rule.specs.Point.{odd}
use Rattle.graph.proofs.Columns.{root_held, root-next, value_end, value_next}
use Rattle.graph.proofs.table.TableRef.+value_from.Goals as goal

pub returns-then-k-self : goal.returns-then-k-self
returns-then-k-self t c = value_end _ _ _ c.if-k-self.true _ _

pub half_of-next-requires : goal.half_of-next-requires
half_of-next-requires t c = root_held c.requires

pub value_from-requires : goal.value_from-requires
unfolding odd
value_from-requires t c =
    (omega (arith, c.decreases, c.requires.column), root-next c.requires c.if-k-self.false _ _ c.half_of-next.ensures)

pub returns : goal.returns
unfolding odd
returns t c = value_next _ _ _ c.if-k-self.false _ _ _ c.half_of-next.ensures _ c.value_from.ensures
