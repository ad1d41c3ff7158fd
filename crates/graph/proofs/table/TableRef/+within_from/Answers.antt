-- `graph::table::TableRef::within_from` meets its contract: a number lies within another if its halves lie within the other's,
-- column by column, and constants and equal numbers are known before that. The measure is the columns left.
use mathlib.Core.Path.{◌∙◌}
use native.Mathlib.Omega.{arith}
use Rattle.graph.proofs.Columns.{root_held, root-next, first-root, second-root, both-roots}
use Rattle.graph.proofs.Columns.{zero_inside, inside_one, inside_itself, outside_end, first-half_refutes, second-half_decides}
use Rattle.graph.proofs.table.TableRef.+within_from.Goals as goal
use Rattle.graph.proofs.table.TableRef.+within_from.Goals.{then-a-eq0-via-then-a-eq0, then-a-eq0-via-else-a-eq0+then-b-eq1, then-a-eq0-via-else-a-eq0+else-b-eq1+then-a-b}

pub returns-then-a-eq0 : goal.returns-then-a-eq0
returns-then-a-eq0 t c =
    elim c.then-a-eq0.branch [
      | then-a-eq0-via-then-a-eq0 w ↦ zero_inside _ _ _ _ _ w.if-a-eq0.true
      | then-a-eq0-via-else-a-eq0+then-b-eq1 w ↦ inside_one _ _ _ _ _ w.if-b-eq1.true
      | then-a-eq0-via-else-a-eq0+else-b-eq1+then-a-b w ↦ inside_itself _ _ _ _ _ w.if-a-b.true
    ]

pub returns-then-k-self : goal.returns-then-k-self
returns-then-k-self t c =
    let s = c.requires in
    outside_end _ _ _ c.if-k-self.true _ _ _ s.sound.good s.first c.if-a-eq0.false c.if-b-eq1.false

pub split-first-requires : goal.split-first-requires
split-first-requires t c = root_held (first-root c.requires)

pub split-second-requires : goal.split-second-requires
split-second-requires t c = root_held (second-root c.requires)

pub within_from-requires : goal.within_from-requires
within_from-requires t c =
    let more = c.if-k-self.false in (
      omega (arith, c.decreases, c.requires.column),
      both-roots (root-next (first-root c.requires) more _ _ c.split-first.ensures.0)
          (root-next (second-root c.requires) more _ _ c.split-second.ensures.0),
    )

pub within_from-requires-then-within_from : goal.within_from-requires-then-within_from
within_from-requires-then-within_from t c =
    let more = c.if-k-self.false in (
      omega (arith, c.decreases, c.requires.column),
      both-roots (root-next (first-root c.requires) more _ _ c.split-first.ensures.1)
          (root-next (second-root c.requires) more _ _ c.split-second.ensures.1),
    )

pub returns-then-within_from : goal.returns-then-within_from
returns-then-within_from t c =
    second-half_decides _ _ _ c.if-k-self.false
    _ _ _ _ _ c.split-first.ensures.0 c.split-second.ensures.0 c.within_from.ensures c.if-within_from.true
    _ _ _ c.split-first.ensures.1 c.split-second.ensures.1 c.within_from-then-within_from.ensures

pub returns-else-within_from : goal.returns-else-within_from
returns-else-within_from t c =
    λ m e.
    c.if-within_from.false ∙
    first-half_refutes _ _ _ c.if-k-self.false
    _ _ _ _ _ c.split-first.ensures.0 c.split-second.ensures.0 c.within_from.ensures c.if-within_from.false m e
