-- `checker::fill::word_from` meets its contract: a constant's word is known, any other is packed of its halves' words. The measure is the
-- columns left.
use native.Mathlib.Omega.{arith}
use Rattle.graph.proofs.Columns.{root_held}
use Rattle.checker.proofs.Filling.{column-left, word-constant, word_next, word_packed}
use Rattle.checker.proofs.fill.+word_from.Goals as goal

pub returns-then-x-lt2 : goal.returns-then-x-lt2
returns-then-x-lt2 t c = word-constant _ _ _ _ _ _ _ _ c.requires c.if-x-lt2.true c.constant_word.ensures

pub split-halves-requires : goal.split-halves-requires
split-halves-requires t c = root_held c.requires.root

pub word_from-first-requires : goal.word_from-first-requires
word_from-first-requires t c = (
  omega (arith, c.decreases, column-left _ _ _ _ _ _ _ c.requires.root c.if-x-lt2.false),
  word_next _ _ _ _ _ _ _ c.requires c.if-x-lt2.false _ _ c.split-halves.ensures.0,
)

pub word_from-second-requires : goal.word_from-second-requires
word_from-second-requires t c = (
  omega (arith, c.decreases, column-left _ _ _ _ _ _ _ c.requires.root c.if-x-lt2.false),
  word_next _ _ _ _ _ _ _ c.requires c.if-x-lt2.false _ _ c.split-halves.ensures.1,
)

pub overflow_sub-table-3 : goal.overflow_sub-table-3
overflow_sub-table-3 t c = omega (arith, column-left _ _ _ _ _ _ _ c.requires.root c.if-x-lt2.false)

pub returns : goal.returns
returns t c =
    word_packed _ _ _ _ _ _ _ c.requires c.if-x-lt2.false _ _ _ _ _ c.split-halves.ensures.0 c.split-halves.ensures.1
    c.word_from-first.ensures c.word_from-second.ensures c.pack.ensures
