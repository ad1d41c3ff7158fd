-- `checker::judge::words_of` meets its contract: one word up to six columns, and twice as many for each column more.
use mathlib.Core.Path.{sym}
use native.Mathlib.Omega.{arith}
use Rattle.words.proofs.Tables.{size_few}
use Rattle.checker.proofs.Deciding.{size_shifted, size-bound}
use Rattle.checker.proofs.judge.words_of.Goals as goal

pub returns-then-columns-le6-clause-size : goal.returns-then-columns-le6-clause-size
returns-then-columns-le6-clause-size c = sym (size_few c.args.columns c.if-columns-le6.true)

pub returns-clause-size : goal.returns-clause-size
returns-clause-size c = size_shifted c.args.columns c.requires

pub returns-clause-fits : goal.returns-clause-fits
returns-clause-fits c = omega (arith, size_shifted c.args.columns c.requires, size-bound c.args.columns c.requires)
