-- `line::meaning::cube_of` meets its contract: each turn takes the last sign of those left.
use Rattle.std.proofs.Common.{rules, sym, ap, ◌≡◌, ◌+◌, ◌*◌, ◌∙◌, arith}
use Rattle.rule.specs.Number.{cube_number}
use Rattle.line.specs.Meaning.{read_cube}
use Rattle.line.proofs.Signs.{number_before, number_before-whole, number_before-last, number_before-grows, number_before-none, cube_fits}
use Rattle.line.proofs.meaning.cube_of.Goals as goal

pub loop-b-init : goal.loop-b-init
loop-b-init c = ap (λ s. number_before s 0) (search rules) ∙ number_before-whole c.args.a.now

abbrev next : (c : goal.After-sign_bits) → number_before c.next.new.self.iter.rest.now (c.sign_bits.result + 2 * c.loop-b.x) ≡ cube_number (read_cube c.args.a.now)
next c = ap (λ d. number_before c.next.new.self.iter.rest.now (d + 2 * c.loop-b.x)) c.sign_bits.ensures ∙
    sym (number_before-last c.next.new.self.iter.rest.now c.in-Some.b.now c.loop-b.x) ∙
    ap (λ s. number_before s c.loop-b.x) (sym c.in-Some.ensures.steps) ∙ c.loop-b.invariant

pub overflow_mul-x : goal.overflow_mul-x
overflow_mul-x c = omega (arith, number_before-grows c.next.new.self.iter.rest.now (c.sign_bits.result + 2 * c.loop-b.x), next c, cube_fits c.args.a.now c.requires)

pub overflow_add-x : goal.overflow_add-x
overflow_add-x c = omega (arith, number_before-grows c.next.new.self.iter.rest.now (c.sign_bits.result + 2 * c.loop-b.x), next c, cube_fits c.args.a.now c.requires)

pub loop-b-preserved : goal.loop-b-preserved
loop-b-preserved c = next c

pub returns : goal.returns
returns c = sym (number_before-none c.loop-b.b-iterator.iter.rest.now c.loop-b.x (search rules)) ∙ c.loop-b.invariant
