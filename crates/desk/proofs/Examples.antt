-- The examples hold of the definitions, by computation.
use mathlib.Core.Path.{◌≡◌, refl}
use mathlib.Core.Bool.{true}
use Rattle.rule.specs.Func.{half, constant, joined, but_not, both, either, less, always, same, within}
use Rattle.rule.specs.Point.{lead, rest, bit, odd, point_number, digits, or_else, after, smallest}
use Rattle.rule.specs.Cube.{lead_sign, rest_signs, under, cube_fn, covered, dashes, is_literal, has_literal, without_literal, cube_at, without}
use Rattle.rule.specs.Number.{is_one, is_zero, ones_of, zeros_of, cube_number, sign_of, signs_from, signs}
use Rattle.rule.specs.Rule.{steps, put, p0_of, p1_of, list_a, list_b, g0_of, g1_of, r0_of, r1_of, r0_or_r1, u0_and_u1, list_c, g_star, g_of, result, list_of, list_numbers}
use Rattle.rule.specs.Nodes.{tree, same_tree, own, nodes, has, add, add_all, named3, named, need}
use Rattle.rule.specs.Refusal.{first_broken}
use Rattle.rule.specs.Verdict.{next, first, found, is_found, fault, covers_off, off_point, fault_a, fault_b, can_go, goes, fault_c, spare, fault_d, first_fault, verdict, verdict_numbers}
use Rattle.rule.specs.Rows as Rows
use Rattle.rule.specs.Marked.{same_list}
use Rattle.line.specs.Bytes.{bytes, is, is_newline, is_hash, is_blank, until, put_byte, split, lines, keep, filled, words, fields}
use Rattle.line.specs.Decimal.{all, is_digit, value_after, is_number, number, digit, decimal_of, decimal}
use Rattle.line.specs.Meaning.{is_sign, read_sign, columns_line, output_line, kind_line, count_line, signed_line, is_cube, read_cube, row_line, pair_line, single_line, meaning_of, meaning, is_end, bytes_to_end, after_end, kind_of, out_of, row_of}
use Rattle.text.specs.Outcome as Outcome
use Rattle.text.specs.Candidate.{is_good, fault_line, cubes_of, read_conditions, read_returns}
use Rattle.text.specs.Function.{need_of, contradictory, function_conditions, function_refusal, function_returns}
use Rattle.text.specs.Writing as Writing
use Rattle.desk.specs.Said.{numeral, point_text, refused_text, verdict_text}
use Rattle.desk.specs.Answer.{column, input_refusal, answer_by, rows_list, list_refusal, list_said, list_answer, candidate_said, check_answer}
use Rattle.desk.specs.Example.{holds, all_hold, examples}

-- All that an example computes with: to unfold this is to unfold each of them.
meant : Unit {0}
unfolding half constant joined but_not both either less always same within lead rest bit odd point_number digits or_else after smallest lead_sign rest_signs under cube_fn covered dashes is_literal has_literal without_literal cube_at without is_one is_zero ones_of zeros_of cube_number sign_of signs_from signs steps put p0_of p1_of list_a list_b g0_of g1_of r0_of r1_of r0_or_r1 u0_and_u1 list_c g_star g_of result list_of list_numbers tree same_tree own nodes has add add_all named3 named need next first found is_found fault covers_off off_point fault_a fault_b can_go goes fault_c spare fault_d first_fault verdict verdict_numbers Rows.part Rows.same_part Rows.keep_if Rows.cubes_of Rows.set_of Rows.lower_of Rows.upper_of Rows.contradicts Rows.named_by Rows.named_after Rows.reading_names Rows.reading_need first_broken
meant = tt

read : Unit {0}
unfolding bytes is is_newline is_hash is_blank until put_byte split lines keep filled words fields all is_digit value_after is_number number digit decimal_of decimal is_sign read_sign columns_line output_line kind_line count_line signed_line is_cube read_cube row_line pair_line single_line meaning_of meaning is_end bytes_to_end after_end kind_of out_of row_of Outcome.start Outcome.with_columns Outcome.with_output Outcome.with_kind Outcome.with_count Outcome.with_row Outcome.allows_columns Outcome.allows_kind Outcome.allows_out Outcome.said Outcome.columns_are Outcome.first Outcome.legal Outcome.step Outcome.count_right Outcome.complete Outcome.kind_or_fd Outcome.end_with Outcome.finish Outcome.put_row Outcome.add_row Outcome.follow Outcome.run Outcome.outcome is_good fault_line cubes_of read_conditions read_returns need_of contradictory function_conditions function_refusal function_returns Writing.sign_byte Writing.row_text Writing.rows_text Writing.joined Writing.text_parts Writing.list_text
read = tt

pub examples_hold : all_hold examples ≡ true
unfolding meant read same_list numeral point_text refused_text verdict_text column input_refusal answer_by rows_list list_refusal list_said list_answer candidate_said check_answer holds all_hold examples
examples_hold = refl
