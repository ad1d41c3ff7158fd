-- `nodes::verdict::check` meets its contract: a row of more than 4,096 records is refused, and any other is taken apart, and the
-- verdict is that for the first numbers of the three arrays.
use Rattle.std.proofs.Common.{sym, ap, ◌∙◌, Err}
use Rattle.nodes.proofs.Refusals.{refused-by}
use Rattle.nodes.proofs.Verdicts.{verdict_loaded, verdict_lent, over-verdict}
use Rattle.nodes.proofs.verdict.check.Goals as goal

pub returns-then-row-gt4096 : goal.returns-then-row-gt4096
returns-then-row-gt4096 c = ap Err (refused-by c.into.ensures c.over_refusal.ensures) ∙ sym (over-verdict _ _ _ _ _ _ c.if-row-gt4096.true)

pub returns : goal.returns
returns c =
    verdict_loaded _ _ _ _ _ _ _ _ c.of-apart.ensures
    (verdict_lent c.of-apart.result c.args.row c.table-table.result _ _ _ c.if-row-gt4096.false c.table-table.ensures c.check.ensures)
