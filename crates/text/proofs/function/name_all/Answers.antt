-- `text::function::name_all` meets its contract: each way out is a law of `Settling`.
use Rattle.text.specs.Function.{RootsNamedIn}
use Rattle.text.proofs.Naming.{sets-named, upper-made}
use Rattle.text.proofs.Settling.{rows_short, rows_named, upper-short, upper-named}
use Rattle.text.proofs.function.name_all.Goals as goal

pub returns-in_err-sets-clause-roots : goal.returns-in_err-sets-clause-roots
unfolding RootsNamedIn
returns-in_err-sets-clause-roots c =
    rw c.from_residual.ensures (rows_short _ _ _ _ _ _ _ _ (rw c.in_err-sets.was at c.name_rows.ensures.named))

pub name_upper-requires-clause-sets : goal.name_upper-requires-clause-sets
name_upper-requires-clause-sets c =
    let q = rows_named (rw c.in_ok-sets.was at c.name_rows.ensures.named) in
    sets-named c.name_rows.new.operations _ c.in_ok-sets.sets _ c.name_rows.ensures.same.slices.columns q.1

pub returns-in_err-upper-clause-roots : goal.returns-in_err-upper-clause-roots
unfolding RootsNamedIn
returns-in_err-upper-clause-roots c =
    let q = rows_named (rw c.in_ok-sets.was at c.name_rows.ensures.named) in
    let m = upper-made c.name_rows.new.operations c.name_upper.new.operations _ c.in_ok-sets.sets _ c.name_rows.ensures.same.slices.columns
    (rw c.in_err-upper.was at c.name_upper.ensures.made) _ q.1 in
    rw c.from_residual-in_err-upper.ensures (upper-short q _ _ _ _ m)

pub returns-clause-roots : goal.returns-clause-roots
unfolding RootsNamedIn
returns-clause-roots c =
    let q = rows_named (rw c.in_ok-sets.was at c.name_rows.ensures.named) in
    let m = upper-made c.name_rows.new.operations c.name_upper.new.operations _ c.in_ok-sets.sets _ c.name_rows.ensures.same.slices.columns
    (rw c.in_ok-upper.was at c.name_upper.ensures.made) _ q.1 in
    upper-named q _ _ _ _ _ m
