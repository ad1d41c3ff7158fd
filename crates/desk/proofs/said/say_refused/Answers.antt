-- `desk::said::say_refused` meets its contract: the number is the refusal's.
use mathlib.Core.Path.{ap}
use Rattle.line.specs.Bytes.{bytes}
use Rattle.desk.specs.Said.{refused_text}
use Rattle.desk.proofs.Saying.{said_as}
use Rattle.desk.proofs.said.say_refused.Goals as goal

pub returns : goal.returns
unfolding bytes refused_text
returns c = said_as c.say_numbers.ensures (ap (λ r. refused_text r c.args.returned) c.number-number.ensures)
