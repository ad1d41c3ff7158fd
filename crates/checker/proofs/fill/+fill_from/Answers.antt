-- `checker::fill::fill_from` meets its contract: a constant's table is known, up to six columns it is one word, and else the halves' tables
-- are filled in the halves of the slice. The measure is the columns left.
use native.Mathlib.Omega.{arith}
use Rattle.graph.proofs.Columns.{root_held}
use Rattle.checker.proofs.Filling.{column-left, table-constant, table-word, word_held, table-low, table-high, table_filled}
use Rattle.checker.proofs.fill.+fill_from.Goals as goal

pub returns-then-x-lt2 : goal.returns-then-x-lt2
returns-then-x-lt2 t c = table-constant _ _ _ _ _ _ _ _ c.requires.root c.if-x-lt2.true c.fill.ensures

pub bounds-s-0 : goal.bounds-s-0
bounds-s-0 t c = word_held _ _ _ _ _ _ _ _ c.requires c.if-table-k-le6.true

pub returns-then-table-k-le6 : goal.returns-then-table-k-le6
returns-then-table-k-le6 t c = table-word _ _ _ _ _ _ _ _ c.requires c.if-table-k-le6.true _ c.word_from.ensures

pub split-halves-requires : goal.split-halves-requires
split-halves-requires t c = root_held c.requires.root

pub fill_from-requires : goal.fill_from-requires
fill_from-requires t c = (
  omega (arith, c.decreases, column-left _ _ _ _ _ _ _ c.requires.root c.if-x-lt2.false),
  table-low _ _ _ _ _ _ _ c.args.s.now c.requires c.if-x-lt2.false c.if-table-k-le6.false _ c.split-halves.ensures.0,
)

pub fill_from-requires-2 : goal.fill_from-requires-2
fill_from-requires-2 t c = (
  omega (arith, c.decreases, column-left _ _ _ _ _ _ _ c.requires.root c.if-x-lt2.false),
  table-high _ _ _ _ _ _ _ c.args.s.now c.requires c.if-x-lt2.false c.if-table-k-le6.false c.fill_from.new.s c.fill_from.auto.s _ c.split-halves.ensures.1,
)

pub returns : goal.returns
returns t c =
    table_filled _ _ _ _ _ _ _ c.args.s.now c.requires c.if-x-lt2.false c.if-table-k-le6.false c.fill_from.new.s c.fill_from.auto.s
    c.fill_from-2.new.s _ _ c.split-halves.ensures.0 c.split-halves.ensures.1 c.fill_from.ensures c.fill_from-2.ensures
