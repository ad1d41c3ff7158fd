-- `words::table::add_word` meets its contract. The loop's invariant: each word before `i` of both tables has been joined, the
-- rest is as it was.
use mathlib.Core.Path.{ap, ap₂, ◌∙◌}
use native.Mathlib.Omega.{arith}
use lib.Bits.{bit_and, bit_or, or_comm}
use Rattle.words.proofs.Loops.{so_far_none, so_far_read, so_far_next}
use Rattle.words.proofs.Flat.{added_once, added_again}
use Rattle.words.proofs.table.add_word.Goals as goal

pub loop-i-init : goal.loop-i-init
loop-i-init c = (so_far_none _ _, so_far_none _ _)

pub loop-i-preserved : goal.loop-i-preserved
loop-i-preserved c =
    let w = c.args.w in
    let x = so_far_read c.loop-i.invariant.0 (omega arith) in
    let y = so_far_read c.loop-i.invariant.1 (omega arith) in (
      so_far_next c.loop-i.invariant.0 (omega arith) (or_comm _ w ∙ ap (bit_or w) x),
      so_far_next c.loop-i.invariant.1 (omega arith) (ap₂ (λ u v. bit_or u (bit_and w v)) y x),
    )

pub shape_of-covered : goal.shape_of-covered
shape_of-covered c = c.loop-i.invariant.0.same

pub shape_of-twice : goal.shape_of-twice
shape_of-twice c = c.loop-i.invariant.1.same

pub returns : goal.returns
returns c = record {
  once = added_once c.args.w c.args.covered.now c.loop-i.invariant.0 (omega arith);
  again = added_again c.args.w c.args.covered.now c.args.twice.now c.loop-i.invariant.1 (omega arith) c.requires;
}
