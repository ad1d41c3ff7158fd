-- The marked cases hold of the definitions, and so do those that notice the errors that look right, by computation.
use mathlib.Core.Path.{◌≡◌, refl}
use mathlib.Core.Bool.{true}
use Rattle.rule.specs.Func.{half, constant, joined, but_not, both, either, less, always, same, within}
use Rattle.rule.specs.Point.{lead, rest, bit, point_number, or_else, after, smallest}
use Rattle.rule.specs.Cube.{lead_sign, rest_signs, under, cube_fn, covered, dashes, is_literal, has_literal, without_literal, cube_at, without}
use Rattle.rule.specs.Number.{is_one, is_zero, ones_of, zeros_of, cube_number}
use Rattle.rule.specs.Rule.{steps, put, p0_of, p1_of, list_a, list_b, g0_of, g1_of, r0_of, r1_of, r0_or_r1, u0_and_u1, list_c, g_star, result, list_of}
use Rattle.rule.specs.Verdict.{next, first, found, is_found, fault, covers_off, off_point, fault_a, fault_b, can_go, goes, fault_c, spare, fault_d, first_fault, verdict}
use Rattle.rule.specs.Rows.{part, same_part, keep_if, cubes_of, set_of, lower_of, upper_of}
use Rattle.rule.specs.Marked.{sign_for, written, rows_fn, sign_code, same_list, same_cube, verdict_code, same_verdict, holds, all_hold, marked, looks_right}

-- All that a case computes with: to unfold this is to unfold each of them.
words : Unit {0}
unfolding half constant joined but_not both either less always same within lead rest bit point_number or_else after smallest lead_sign rest_signs under cube_fn covered dashes is_literal has_literal without_literal cube_at without is_one is_zero ones_of zeros_of cube_number steps put p0_of p1_of list_a list_b g0_of g1_of r0_of r1_of r0_or_r1 u0_and_u1 list_c g_star result list_of next first found is_found fault covers_off off_point fault_a fault_b can_go goes fault_c spare fault_d first_fault verdict part same_part keep_if cubes_of set_of lower_of upper_of sign_for written rows_fn sign_code same_list same_cube verdict_code same_verdict holds all_hold
words = tt

pub marked_hold : all_hold marked ≡ true
unfolding words marked
marked_hold = refl

-- So do the cases that notice the errors that look right.
pub looks_right_hold : all_hold looks_right ≡ true
unfolding words looks_right
looks_right_hold = refl
