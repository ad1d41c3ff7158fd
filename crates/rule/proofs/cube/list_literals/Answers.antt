-- `rule::cube::list_literals` meets its contract: the sums that the fold goes through stay at the largest number.
use Rattle.std.proofs.Common.{rules, ◌≡◌, ◌+◌, min, ◌∙◌}
use Rattle.std.specs.Int.Count.{ones}
use Rattle.std.specs.List.{fold}
use Rattle.rule.proofs.Number.{capped_literals}
use Rattle.rule.proofs.cube.list_literals.Goals as goal

pub returns : goal.returns
returns c =
    let folded : c.fold.result ≡ fold (λ sum x. min (sum + ones x) 18446744073709551615) 0 c.args.list.now = search rules in
    folded ∙ capped_literals c.args.list.now
