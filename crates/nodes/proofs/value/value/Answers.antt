-- `nodes::value::value` meets its contract: a row of more than 4,096 records is refused, and any other is taken apart, and the value
-- is that of the first numbers of the three arrays.
use Rattle.std.proofs.Common.{sym, ap, ◌∙◌, Err}
use Rattle.nodes.proofs.Values.{value_loaded, value_lent, over_value}
use Rattle.nodes.proofs.value.value.Goals as goal

pub returns-then-row-gt4096 : goal.returns-then-row-gt4096
returns-then-row-gt4096 c = ap Err c.over_refusal.ensures ∙ sym (over_value _ _ _ _ _ c.if-row-gt4096.true)

pub returns : goal.returns
returns c =
    value_loaded _ _ _ _ _ _ _ c.of-apart.ensures
    (value_lent c.of-apart.result c.args.row c.table-table.result _ _ c.if-row-gt4096.false c.table-table.ensures c.value.ensures)
