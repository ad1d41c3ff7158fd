-- `words::cube::add_from` meets its contract: one word for every word, or the halves of both slices by the sign of the first
-- column. The measure is the columns left.
use mathlib.Core.Path.{sym, ◌∙◌}
use mathlib.Core.List.{◌++◌}
use Prim.Native.Nat.{◌-◌, ◌/◌}
use native.Mathlib.Omega.{arith}
use lib.ListN.{length, drop}
use lib.Seq.{length-take-le, length_front}
use borrow.Rule.Slice.PartMut.{same_len_mid}
use Rattle.words.proofs.Adding.{not_plain, added_plain, add_low, add-high, add_one, add_zero, add-high-after, add-dash}
use Rattle.words.proofs.cube.+add_from.Goals as goal

pub all_dashes-requires : goal.all_dashes-requires
all_dashes-requires t c = c.requires.columns

pub add_word-requires : goal.add_word-requires
add_word-requires t c =
    c.requires.second ∙ sym c.requires.first

pub shape_of-covered-then-all_dashes : goal.shape_of-covered-then-all_dashes
shape_of-covered-then-all_dashes t c = c.add_word.auto.covered

pub shape_of-twice-then-all_dashes : goal.shape_of-twice-then-all_dashes
shape_of-twice-then-all_dashes t c = c.add_word.auto.twice

pub returns-then-all_dashes : goal.returns-then-all_dashes
returns-then-all_dashes t c =
    added_plain c.args.columns c.args.cube.ones c.args.cube.zeros c.args.w c.args.covered.now c.args.twice.now c.add_word.new.covered c.add_word.new.twice c.requires (sym c.all_dashes.ensures ∙ c.if-all_dashes.true) c.add_word.ensures.once c.add_word.ensures.again

pub slice_bounds-add_from-count-then-first_is_one : goal.slice_bounds-add_from-count-then-first_is_one
slice_bounds-add_from-count-then-first_is_one t c =
    omega (arith, c.requires.first, c.requires.second)

pub slice_bounds-add_from-start-2 : goal.slice_bounds-add_from-start-2
slice_bounds-add_from-start-2 t c =
    omega (arith, c.requires.first, c.requires.second)

pub overflow_sub-columns : goal.overflow_sub-columns
overflow_sub-columns t c =
    omega (arith, not_plain c.args.columns c.args.cube.ones c.args.cube.zeros (sym c.all_dashes.ensures ∙ c.if-all_dashes.false))

pub add_from-requires : goal.add_from-requires
add_from-requires t c =
    let more = (not_plain c.args.columns c.args.cube.ones c.args.cube.zeros (sym c.all_dashes.ensures ∙ c.if-all_dashes.false)) in
    (omega (arith, c.decreases), add-high c.args.columns c.args.cube.ones c.args.cube.zeros c.args.w c.args.covered.now c.args.twice.now more c.requires c.rest-rest.ensures.ones c.rest-rest.ensures.zeros)

pub shape_of-covered-then-first_is_one : goal.shape_of-covered-then-first_is_one
shape_of-covered-then-first_is_one t c =
    let xs = c.args.covered.now in
    same_len_mid (length c.args.covered.now / 2) (length xs - (length c.args.covered.now / 2)) xs c.add_from.new.covered c.add_from.auto.covered

pub shape_of-twice-then-first_is_one : goal.shape_of-twice-then-first_is_one
shape_of-twice-then-first_is_one t c =
    let xs = c.args.twice.now in
    same_len_mid (length c.args.covered.now / 2) (length xs - (length c.args.covered.now / 2)) xs c.add_from.new.twice c.add_from.auto.twice

pub returns-then-first_is_one : goal.returns-then-first_is_one
returns-then-first_is_one t c =
    add_one c.args.columns c.args.cube.ones c.args.cube.zeros c.args.w c.args.covered.now c.args.twice.now (not_plain c.args.columns c.args.cube.ones c.args.cube.zeros (sym c.all_dashes.ensures ∙ c.if-all_dashes.false)) c.requires c.rest-rest.ensures.ones c.rest-rest.ensures.zeros (sym c.first_is_one.ensures ∙ c.if-first_is_one.true) c.add_from.new.covered c.add_from.new.twice c.add_from.ensures

pub slice_bounds-add_from-end-3 : goal.slice_bounds-add_from-end-3
slice_bounds-add_from-end-3 t c =
    sym (length-take-le (length c.args.covered.now / 2) c.args.covered.now (omega arith))

pub slice_bounds-add_from-end-4 : goal.slice_bounds-add_from-end-4
slice_bounds-add_from-end-4 t c =
    omega (arith, c.requires.first, c.requires.second)

pub slice_bounds-add_from-end-5 : goal.slice_bounds-add_from-end-5
slice_bounds-add_from-end-5 t c =
    sym (length-take-le (length c.args.covered.now / 2) c.args.twice.now (omega (arith, c.requires.first, c.requires.second)))

pub overflow_sub-columns-2 : goal.overflow_sub-columns-2
overflow_sub-columns-2 t c =
    omega (arith, not_plain c.args.columns c.args.cube.ones c.args.cube.zeros (sym c.all_dashes.ensures ∙ c.if-all_dashes.false))

pub add_from-requires-2 : goal.add_from-requires-2
add_from-requires-2 t c =
    let more = (not_plain c.args.columns c.args.cube.ones c.args.cube.zeros (sym c.all_dashes.ensures ∙ c.if-all_dashes.false)) in
    (omega (arith, c.decreases), add_low c.args.columns c.args.cube.ones c.args.cube.zeros c.args.w c.args.covered.now c.args.twice.now more c.requires c.rest-rest.ensures.ones c.rest-rest.ensures.zeros)

pub shape_of-covered-then-first_is_zero : goal.shape_of-covered-then-first_is_zero
shape_of-covered-then-first_is_zero t c =
    length_front c.args.covered.now c.add_from-2.new.covered (length c.args.covered.now / 2) c.add_from-2.auto.covered

pub shape_of-twice-then-first_is_zero : goal.shape_of-twice-then-first_is_zero
shape_of-twice-then-first_is_zero t c =
    length_front c.args.twice.now c.add_from-2.new.twice (length c.args.covered.now / 2) c.add_from-2.auto.twice

pub returns-then-first_is_zero : goal.returns-then-first_is_zero
returns-then-first_is_zero t c =
    add_zero c.args.columns c.args.cube.ones c.args.cube.zeros c.args.w c.args.covered.now c.args.twice.now (not_plain c.args.columns c.args.cube.ones c.args.cube.zeros (sym c.all_dashes.ensures ∙ c.if-all_dashes.false)) c.requires c.rest-rest.ensures.ones c.rest-rest.ensures.zeros c.add_from-2.new.covered c.add_from-2.new.twice c.add_from-2.ensures (sym c.first_is_one.ensures ∙ c.if-first_is_one.false) (sym c.first_is_zero.ensures ∙ c.if-first_is_zero.true)

pub slice_bounds-add_from-count-2 : goal.slice_bounds-add_from-count-2
slice_bounds-add_from-count-2 t c =
    omega (arith, length_front c.args.covered.now c.add_from-2.new.covered (length c.args.covered.now / 2) c.add_from-2.auto.covered)

pub slice_bounds-add_from-start-3 : goal.slice_bounds-add_from-start-3
slice_bounds-add_from-start-3 t c =
    omega (arith, length_front c.args.covered.now c.add_from-2.new.covered (length c.args.covered.now / 2) c.add_from-2.auto.covered)

pub slice_bounds-add_from-count-3 : goal.slice_bounds-add_from-count-3
slice_bounds-add_from-count-3 t c =
    omega (arith, c.requires.first, c.requires.second, length_front c.args.twice.now c.add_from-2.new.twice (length c.args.covered.now / 2) c.add_from-2.auto.twice)

pub overflow_sub-columns-3 : goal.overflow_sub-columns-3
overflow_sub-columns-3 t c =
    omega (arith, not_plain c.args.columns c.args.cube.ones c.args.cube.zeros (sym c.all_dashes.ensures ∙ c.if-all_dashes.false))

pub add_from-requires-3 : goal.add_from-requires-3
add_from-requires-3 t c =
    let more = (not_plain c.args.columns c.args.cube.ones c.args.cube.zeros (sym c.all_dashes.ensures ∙ c.if-all_dashes.false)) in (
      omega (arith, c.decreases),
      add-high-after c.args.columns c.args.cube.ones c.args.cube.zeros c.args.w c.args.covered.now c.args.twice.now more c.requires c.rest-rest.ensures.ones c.rest-rest.ensures.zeros c.add_from-2.new.covered c.add_from-2.new.twice c.add_from-2.ensures c.add_from-2.auto.covered c.add_from-2.auto.twice,
    )

pub shape_of-covered : goal.shape_of-covered
shape_of-covered t c =
    let xs = c.add_from-2.new.covered ++ drop (length c.args.covered.now / 2) c.args.covered.now in
    same_len_mid (length c.args.covered.now / 2) (length xs - (length c.args.covered.now / 2)) xs c.add_from-3.new.covered c.add_from-3.auto.covered ∙ length_front c.args.covered.now c.add_from-2.new.covered (length c.args.covered.now / 2) c.add_from-2.auto.covered

pub shape_of-twice : goal.shape_of-twice
shape_of-twice t c =
    let xs = c.add_from-2.new.twice ++ drop (length c.args.covered.now / 2) c.args.twice.now in
    same_len_mid (length c.args.covered.now / 2) (length xs - (length c.args.covered.now / 2)) xs c.add_from-3.new.twice c.add_from-3.auto.twice ∙ length_front c.args.twice.now c.add_from-2.new.twice (length c.args.covered.now / 2) c.add_from-2.auto.twice

pub returns : goal.returns
returns t c =
    add-dash c.args.columns c.args.cube.ones c.args.cube.zeros c.args.w c.args.covered.now c.args.twice.now (not_plain c.args.columns c.args.cube.ones c.args.cube.zeros (sym c.all_dashes.ensures ∙ c.if-all_dashes.false)) c.requires c.rest-rest.ensures.ones c.rest-rest.ensures.zeros c.add_from-2.new.covered c.add_from-2.new.twice c.add_from-2.ensures c.add_from-2.auto.covered c.add_from-2.auto.twice
    (sym c.first_is_one.ensures ∙ c.if-first_is_one.false) (sym c.first_is_zero.ensures ∙ c.if-first_is_zero.false) c.add_from-3.new.covered c.add_from-3.new.twice c.add_from-3.ensures
