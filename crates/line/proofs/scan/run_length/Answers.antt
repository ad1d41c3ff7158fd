-- `line::scan::run_length` meets its contract: each byte ends the run, or belongs to it, so the search finds the run's length.
use Rattle.std.proofs.Common.{◌≡◌, rules, sym, ap, ◌∙◌, true, false, ◌∷◌, [], length, arith}
use Rattle.std.proofs.lemmas.Iterator.{YieldsList-from_slice, IsFirst-from_position, index_from_first}
use Rattle.line.specs.Bytes.{until}
use Rattle.line.specs.Scan.{test_of}
use Rattle.line.proofs.Runs.{until-here, until-on, until_none}
use Rattle.line.proofs.scan.run_length.Goals as goal

pub returns : goal.returns
returns c =
    let p = test_of c.args.what in
    let found = IsFirst-from_position _ _ _ (λ b. p b ≡ true) (λ b. p b ≡ false) c.position.ensures.ran
    (YieldsList-from_slice c.args.s.now cc) (λ x q k. search rules) (λ x q k. search rules) in
    let counted = index_from_first (λ s. length (until p s)) (λ b. p b ≡ true) (λ b. p b ≡ false)
    (ap length (until_none p [] 0 (omega arith)))
    (λ b t e. ap length (until-here p (b ∷ t) 0 (omega arith) e))
    (λ b t e. let u = ap length (until-on p (b ∷ t) 0 (omega arith) e) in omega (arith, u))
    c.args.s.now _ found in
    c.unwrap_or.ensures ∙ sym counted
