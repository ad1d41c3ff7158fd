-- Two values can meet in a rule exactly if they do for some function of two columns: computed, once for each rule.
use mathlib.Core.Path.{◌≡◌, refl}
use mathlib.Core.List.{flat_map}
use Rattle.rule.specs.Func.{half, constant, joined, but_not, both, either, less, always}
use Rattle.rule.specs.Point.{lead, rest, at}
use Rattle.rule.specs.Cube.{lead_sign, rest_signs, under, cube_fn, covered, dashes}
use Rattle.rule.specs.Rule.{steps, put, p0_of, p1_of, list_a, list_b, g0_of, g1_of, r0_of, r1_of, r0_or_r1, u0_and_u1, list_c, result, list_of}
use Rattle.rule.specs.Three.{place_of, lower, upper, value_of, value_at, is_star, arises, listed}
use Rattle.rule.specs.Occurs.{roots, points, meetings, in_step3, among, occurs}
use Rattle.rule.specs.declared.three.Value.{Value}
use Rattle.rule.specs.declared.three.Rule.{Rule}
use Rattle.rule.specs.declared.three.Rule.TheVariants.{Keep, Remove, Join}
use Rattle.rule.proofs.Table.{same-listed}

all_occur : (r : Rule) → listed (occurs r) ≡ listed (arises r)
unfolding flat_map half constant joined but_not both either less always lead rest at lead_sign rest_signs under cube_fn covered dashes steps put p0_of p1_of list_a list_b g0_of g1_of r0_of r1_of r0_or_r1 u0_and_u1 list_c result list_of place_of lower upper value_of value_at is_star arises listed roots points meetings in_step3 among occurs
all_occur Keep = refl
all_occur Remove = refl
all_occur Join = refl

pub occurs_where_arises : (r : Rule) (a : Value) (b : Value) → occurs r a b ≡ arises r a b
occurs_where_arises r = same-listed (occurs r) (arises r) (all_occur r)
