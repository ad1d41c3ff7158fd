-- `words::cube::first_under` meets its contract: no word is met, or the number is that of the first word that is met, which has a
-- point.
use mathlib.Core.Path.{subst⁻¹}
use native.Mathlib.Omega.{arith}
use Rattle.words.specs.Contract.{answer_number, FirstUnder}
use Rattle.words.proofs.Placing.{none-under, met_not_empty, found_in_word, first_under, place-fits}
use Rattle.words.proofs.cube.first_under.Goals as goal

pub returns-in_err-i : goal.returns-in_err-i
returns-in_err-i c =
    subst⁻¹ (λ r. FirstUnder c.args.columns c.args.w c.args.s.now (answer_number r)) c.from_residual.ensures
    (none-under c.args.columns c.args.w c.args.s.now c.requires c.in_err-i.ensures)

pub returns-in_err-p : goal.returns-in_err-p
returns-in_err-p c = absurd (met_not_empty c.args.columns c.args.w c.args.s.now c.requires c.in_ok-i.ensures c.in_err-p.ensures)

pub overflow_cast-i : goal.overflow_cast-i
overflow_cast-i c =
    omega (arith, c.in_ok-i.ensures.place, place-fits c.args.columns c.args.w c.args.s.now c.requires)

pub number_by_place-requires : goal.number_by_place-requires
number_by_place-requires c =
    found_in_word c.args.columns c.args.w c.args.s.now c.requires c.in_ok-i.ensures _ c.in_ok-p.ensures

pub returns : goal.returns
returns c =
    first_under c.args.columns c.args.w c.args.s.now c.requires c.in_ok-i.ensures _ c.in_ok-p.ensures c.number_by_place.ensures
