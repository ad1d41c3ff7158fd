-- `rule::cube::first_malformed` meets its contract: one more than the place that the search finds.
use Rattle.std.proofs.Common.{rules, tests, ◌∙◌, not}
use Rattle.std.proofs.lemmas.Iterator.{YieldsList-from_slice}
use Rattle.std.proofs.lemmas.Iterator.Search.{position_from_yields_List}
use Rattle.std.proofs.lemmas.Iterator.Adapters.{position_from-zero}
use Rattle.rule.specs.Number.{well_formed}
use Rattle.rule.proofs.Malformed.{counted}
use Rattle.rule.proofs.cube.first_malformed.Goals as goal

pub returns : goal.returns
returns c =
    let found =
    position_from_yields_List (λ x. not (well_formed c.args.columns x)) _ _ _ c.position.ensures.ran
    (YieldsList-from_slice c.args.list.now cc) (λ x b q k. search (rules, tests)) ∙
    position_from-zero (λ x. not (well_formed c.args.columns x)) c.args.list.now in
    search (rules, found, counted c.args.columns c.args.list.now)
