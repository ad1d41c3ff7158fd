-- `line::meaning::is_cube` meets its contract.
use Rattle.std.proofs.Common.{rules, ◌∙◌}
use Rattle.std.proofs.lemmas.Iterator.{YieldsList-from_slice}
use Rattle.std.proofs.lemmas.Iterator.Search.{all_from_yields_List}
use Rattle.line.specs.Meaning.{is_sign}
use Rattle.line.proofs.Signs.{long-cube, short-cube}
use Rattle.line.proofs.meaning.is_cube.Goals as goal

pub returns-then-a-le16 : goal.returns-then-a-le16
returns-then-a-le16 c =
    all_from_yields_List is_sign _ _ _ c.all.ensures.ran (YieldsList-from_slice c.args.a.now cc) (λ x b q k. search rules) ∙
    short-cube c.args.a.now c.if-a-le16.true

pub returns-else-a-le16 : goal.returns-else-a-le16
returns-else-a-le16 c = long-cube c.args.a.now c.if-a-le16.false
