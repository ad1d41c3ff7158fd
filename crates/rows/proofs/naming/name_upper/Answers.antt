-- `rows::naming::name_upper` meets its contract: each type's upper root is a law of `Names`.
use Rattle.rows.proofs.Names.{upper-f, upper-fd, one_and_second, upper-fr}
use Rattle.rows.proofs.naming.name_upper.Goals as goal

pub apply-requires-in-Fr-clause-roots : goal.apply-requires-in-Fr-clause-roots
apply-requires-in-Fr-clause-roots c = one_and_second c.args.operations.now.table.now c.args.sets c.requires.sets

pub returns-in-F-clause-made : goal.returns-in-F-clause-made
returns-in-F-clause-made c = upper-f c.args.operations.now.table.now c.args.sets _ c.in-F.is

pub returns-in-Fd-clause-made : goal.returns-in-Fd-clause-made
returns-in-Fd-clause-made c =
    upper-fd c.args.operations.now.table.now c.args.sets _ c.in-Fd.is c.apply.new.self.table.now _ c.apply.ensures.made

pub returns-in-Fr-clause-made : goal.returns-in-Fr-clause-made
returns-in-Fr-clause-made c =
    upper-fr c.args.operations.now.table.now c.args.sets _ c.in-Fr.is c.apply-in-Fr.new.self.table.now _ c.apply-in-Fr.ensures.made
