-- The examples hold of the definitions, by computation.
use mathlib.Core.Path.{◌≡◌, refl}
use mathlib.Core.Bool.{true}
use mathlib.Core.List.{◌++◌}
use Rattle.rule.specs.Func.{half, constant, joined, but_not, both, either, less, always}
use Rattle.rule.specs.Point.{bit, odd}
use Rattle.rule.specs.Cube.{lead_sign, rest_signs, under, cube_fn, covered, dashes}
use Rattle.rule.specs.Number.{is_one, is_zero, ones_of, zeros_of, cube_number, sign_of, signs_from, signs}
use Rattle.rule.specs.Rule.{steps, put, p0_of, p1_of, list_a, list_b, g0_of, g1_of, r0_of, r1_of, r0_or_r1, u0_and_u1, list_c, g_star, result, list_of, list_numbers}
use Rattle.rule.specs.Rows.{part, same_part, keep_if, cubes_of, set_of, lower_of, upper_of}
use Rattle.rule.specs.Marked.{sign_for, written, sign_code, same_list, same_cube}
use Rattle.line.specs.Bytes.{bytes, is, is_newline, is_hash, is_blank, until, put_byte, split, lines, keep, filled, words, fields}
use Rattle.line.specs.Decimal.{all, is_digit, value_after, is_number, number, digit, decimal_of, decimal}
use Rattle.line.specs.Meaning.{is_sign, read_sign, columns_line, output_line, kind_line, count_line, signed_line, is_cube, read_cube, row_line, pair_line, single_line, meaning_of, meaning, is_end, bytes_to_end, after_end, kind_of, out_of, row_of}
use Rattle.text.specs.Outcome.{start, with_columns, with_output, with_kind, with_count, with_row, said, columns_are, allows_columns, allows_kind, allows_out, first, legal, step, count_right, complete, kind_or_fd, end_with, finish, put_row, add_row, follow, run, outcome}
use Rattle.text.specs.Writing.{sign_byte, row_text, rows_text, joined as parts, text_parts, list_text}
use Rattle.text.specs.Example.{row_as, kind_code, out_code, row_codes, outcome_code, has_list, has_text, holds, all_hold, function_texts, candidate_texts, list_texts}

-- All that reading a text computes with, and all that a list and its text do: to unfold one of these is to unfold each of them.
reading : Unit {0}
unfolding bit odd is_one is_zero ones_of zeros_of cube_number sign_of signs_from signs sign_for written same_list bytes is is_newline is_hash is_blank until put_byte split lines keep filled words fields all is_digit value_after is_number number is_sign read_sign columns_line output_line kind_line count_line signed_line is_cube read_cube row_line pair_line single_line meaning_of meaning is_end bytes_to_end after_end kind_of out_of row_of start with_columns with_output with_kind with_count with_row said columns_are allows_columns allows_kind allows_out first legal step count_right complete kind_or_fd end_with finish put_row add_row follow run outcome row_as kind_code out_code row_codes outcome_code holds all_hold
reading = tt

listing : Unit {0}
unfolding half constant joined but_not both either less always lead_sign rest_signs under cube_fn covered dashes steps put p0_of p1_of list_a list_b g0_of g1_of r0_of r1_of r0_or_r1 u0_and_u1 list_c g_star result list_of list_numbers part same_part keep_if cubes_of set_of lower_of upper_of sign_code same_cube digit decimal_of decimal sign_byte row_text rows_text parts text_parts list_text has_list has_text
listing = tt

pub examples_hold : all_hold (function_texts ++ candidate_texts) ≡ true
unfolding reading function_texts candidate_texts
examples_hold = refl

pub lists_hold : all_hold list_texts ≡ true
unfolding reading listing list_texts
lists_hold = refl
