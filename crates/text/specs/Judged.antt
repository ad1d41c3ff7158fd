-- What the judging function answers, in the words of `Outcome`.
use Rattle.std.specs.Prelude.{ℕ, ◌+◌, length, Result, Ok, Err}
use Rattle.rule.specs.Rows as Rows
use Rattle.line.specs.declared.meaning.Kind.{Kind}
use Rattle.line.specs.declared.meaning.Kind.TheVariants.{F, Fd, Fr}
use Rattle.text.specs.Outcome.{Outcome, good, fault}
use Rattle.text.specs.declared.judge.Shape.{Shape}

-- The type by the code's name.
unfoldable pub kind_for : Rows.Kind → Kind
kind_for Rows.f = F
kind_for Rows.fd = Fd
kind_for Rows.fr = Fr

-- The columns, the type and the number of rows, m of them already passed; or the line of the fault.
unfoldable pub judged_plus : ℕ → Outcome → Result Shape ℕ
judged_plus m (good n t rs) = Ok (record { columns = n; kind = kind_for t; rows = m + length rs })
judged_plus m (fault k) = Err k

unfoldable pub judged : Outcome → Result Shape ℕ
judged w = judged_plus 0 w
