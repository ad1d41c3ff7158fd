-- `line::meaning::line_meaning` meets its contract: the fields are taken one after the other, and a third is bad.
use Rattle.std.proofs.Common.{rules, ◌∙◌}
use Rattle.line.specs.Scan.{test_of}
use Rattle.line.proofs.Lines.{line_empty, line_single, line_pair, line_more}
use Rattle.line.proofs.meaning.line_meaning.Goals as goal

pub returns-then-is_empty : goal.returns-then-is_empty
unfolding test_of
returns-then-is_empty c = line_empty c.args.line.now c.before_first-kept.result.now c.first_field-a.result.now c.before_first-kept.ensures c.first_field-a.ensures (search rules)

pub returns-then-is_empty-2 : goal.returns-then-is_empty-2
unfolding test_of
returns-then-is_empty-2 c = c.single_line.ensures ∙ line_single c.args.line.now c.before_first-kept.result.now c.first_field-a.result.now c.before_first-kept.ensures c.first_field-a.ensures (search rules) c.rest_fields-after_a.result.now c.first_field-b.result.now c.rest_fields-after_a.ensures c.first_field-b.ensures (search rules)

pub returns-then-not-is_empty : goal.returns-then-not-is_empty
unfolding test_of
returns-then-not-is_empty c = line_more c.args.line.now c.before_first-kept.result.now c.first_field-a.result.now c.before_first-kept.ensures c.first_field-a.ensures (search rules) c.rest_fields-after_a.result.now c.first_field-b.result.now c.rest_fields-after_a.ensures c.first_field-b.ensures (search rules) c.rest_fields-after_b.result.now c.first_field.result.now c.rest_fields-after_b.ensures c.first_field.ensures (search rules)

pub returns : goal.returns
unfolding test_of
returns c = c.pair_line.ensures ∙ line_pair c.args.line.now c.before_first-kept.result.now c.first_field-a.result.now c.before_first-kept.ensures c.first_field-a.ensures (search rules) c.rest_fields-after_a.result.now c.first_field-b.result.now c.rest_fields-after_a.ensures c.first_field-b.ensures (search rules) c.rest_fields-after_b.result.now c.first_field.result.now c.rest_fields-after_b.ensures c.first_field.ensures (search rules)
