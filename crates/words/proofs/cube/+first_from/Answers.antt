-- `words::cube::first_from` and `first_by_halves` meet their contracts: one word, one word against each word, or the halves of the
-- slice by the sign of the first column, the half for 0 first. The measure is the columns left, and which of the two it is.
use mathlib.Core.Path.{refl, sym, ◌∙◌, subst, subst⁻¹}
use mathlib.Core.Logic.{inl, inr}
use Prim.Native.Nat.{◌+◌}
use native.Mathlib.Omega.{arith}
use Rattle.words.specs.Contract.{answer_number, FirstIn}
use Rattle.words.proofs.Tables.{size_few}
use Rattle.words.proofs.Finding.{one_word, all-dashes-found, search_low, search_high, search_found, search_zero, search_high-part, HighDecides}
use Rattle.words.proofs.cube.+first_from.Goals as goal
use Rattle.words.proofs.cube.+first_from.Goals.{first_by_halves-then-not-first_is_one+in_default+else-first_is_zero, first_by_halves-else-not-first_is_one}

pub first_from-bounds-s-0 : goal.first_from-bounds-s-0
first_from-bounds-s-0 t c =
    omega (arith, c.requires.long, size_few c.args.columns c.if-columns-le6.true)

pub first_from-returns-then-columns-le6 : goal.first_from-returns-then-columns-le6
first_from-returns-then-columns-le6 t c =
    one_word c.args.columns c.args.cube.ones c.args.cube.zeros c.args.w c.args.s.now (answer_number c.first_bit.result) c.requires c.if-columns-le6.true c.first_bit.ensures

pub first_from-returns-then-all_dashes : goal.first_from-returns-then-all_dashes
first_from-returns-then-all_dashes t c =
    let d = c.all_dashes in
    all-dashes-found c.args.columns c.args.cube.ones c.args.cube.zeros c.args.w c.args.s.now d.result (answer_number c.first_under.result) c.requires d.ensures c.if-all_dashes.true c.first_under.ensures

-- Either half may be searched; that it is the right one, the goals at the returns say.
pub first_by_halves-first_from-requires : goal.first_by_halves-first_from-requires
first_by_halves-first_from-requires t c =
    let l = search_low c.args.columns c.args.cube.ones c.args.cube.zeros c.args.w c.args.s.now c.requires.more c.requires.sized
    c.rest-rest.ensures.ones c.rest-rest.ensures.zeros c.split_at.ensures.front c.split_at.ensures.back in
    let h = search_high c.args.columns c.args.cube.ones c.args.cube.zeros c.args.w c.args.s.now c.requires.more c.requires.sized
    c.rest-rest.ensures.ones c.rest-rest.ensures.zeros c.split_at.ensures.front c.split_at.ensures.back in
    (omega (arith, c.decreases, c.requires.more), search (l, h))

pub first_by_halves-returns-in-Some : goal.first_by_halves-returns-in-Some
first_by_halves-returns-in-Some t c =
    subst (FirstIn c.args.columns c.args.cube.ones c.args.cube.zeros c.args.s.now) (omega arith)
    (search_found c.args.columns c.args.cube.ones c.args.cube.zeros c.args.w c.args.s.now c.requires.more c.requires.sized
    c.rest-rest.ensures.ones c.rest-rest.ensures.zeros c.split_at.ensures.front c.split_at.ensures.back (c.in-Some.p + 1)
    (sym c.first_is_one.ensures ∙ c.if-not-first_is_one.true) (λ z. omega arith) c.in-Some.ensures)

pub first_by_halves-returns-then-first_is_zero : goal.first_by_halves-returns-then-first_is_zero
first_by_halves-returns-then-first_is_zero t c =
    search_zero c.args.columns c.args.cube.ones c.args.cube.zeros c.args.w c.args.s.now c.requires.more c.requires.sized
    c.rest-rest.ensures.ones c.rest-rest.ensures.zeros c.split_at.ensures.front c.split_at.ensures.back 0
    (sym c.first_is_one.ensures ∙ c.if-not-first_is_one.true) refl (sym c.first_is_zero.ensures ∙ c.if-first_is_zero.true) c.in_default.ensures

pub first_by_halves-first_from-requires-2 : goal.first_by_halves-first_from-requires-2
first_by_halves-first_from-requires-2 t c =
    let l = search_low c.args.columns c.args.cube.ones c.args.cube.zeros c.args.w c.args.s.now c.requires.more c.requires.sized
    c.rest-rest.ensures.ones c.rest-rest.ensures.zeros c.split_at.ensures.front c.split_at.ensures.back in
    let h = search_high c.args.columns c.args.cube.ones c.args.cube.zeros c.args.w c.args.s.now c.requires.more c.requires.sized
    c.rest-rest.ensures.ones c.rest-rest.ensures.zeros c.split_at.ensures.front c.split_at.ensures.back in
    (omega (arith, c.decreases, c.requires.more), search (l, h))

pub first_by_halves-returns-in_err-p : goal.first_by_halves-returns-in_err-p
first_by_halves-returns-in_err-p t c =
    let h : HighDecides c.args.columns c.args.cube.ones c.args.cube.zeros c.args.w c.args.s.now c.requires.more c.requires.sized
    c.rest-rest.ensures.ones c.rest-rest.ensures.zeros c.split_at.ensures.front c.split_at.ensures.back =
    elim c.if-not-first_is_one.branch [
      | first_by_halves-then-not-first_is_one+in_default+else-first_is_zero w ↦ inr (
        sym c.first_is_one.ensures ∙ w.if-not-first_is_one.true,
        sym w.first_is_zero.ensures ∙ w.if-first_is_zero.false,
        w.in_default.ensures,
      )
      | first_by_halves-else-not-first_is_one w ↦ inl (sym c.first_is_one.ensures ∙ w.if-not-first_is_one.false)
    ] in
    subst⁻¹ (λ o. FirstIn c.args.columns c.args.cube.ones c.args.cube.zeros c.args.s.now (answer_number o)) c.from_residual.ensures
    (search_high-part c.args.columns c.args.cube.ones c.args.cube.zeros c.args.w c.args.s.now c.requires.more c.requires.sized
    c.rest-rest.ensures.ones c.rest-rest.ensures.zeros c.split_at.ensures.front c.split_at.ensures.back h 0 c.in_err-p.ensures)

pub first_by_halves-returns : goal.first_by_halves-returns
first_by_halves-returns t c =
    let h : HighDecides c.args.columns c.args.cube.ones c.args.cube.zeros c.args.w c.args.s.now c.requires.more c.requires.sized
    c.rest-rest.ensures.ones c.rest-rest.ensures.zeros c.split_at.ensures.front c.split_at.ensures.back =
    elim c.if-not-first_is_one.branch [
      | first_by_halves-then-not-first_is_one+in_default+else-first_is_zero w ↦ inr (
        sym c.first_is_one.ensures ∙ w.if-not-first_is_one.true,
        sym w.first_is_zero.ensures ∙ w.if-first_is_zero.false,
        w.in_default.ensures,
      )
      | first_by_halves-else-not-first_is_one w ↦ inl (sym c.first_is_one.ensures ∙ w.if-not-first_is_one.false)
    ] in
    subst (FirstIn c.args.columns c.args.cube.ones c.args.cube.zeros c.args.s.now) (omega arith)
    (search_high-part c.args.columns c.args.cube.ones c.args.cube.zeros c.args.w c.args.s.now c.requires.more c.requires.sized
    c.rest-rest.ensures.ones c.rest-rest.ensures.zeros c.split_at.ensures.front c.split_at.ensures.back h (c.in_ok-p.p + 1) c.in_ok-p.ensures)
