-- `text::reader::Reader::next_line` meets its contract: with no line left, and with one.
use Rattle.std.proofs.Common.{arith}
use lib.ListN.{length-drop}
use Rattle.text.proofs.NextLine.{none_next, some_next}
use Rattle.text.proofs.Places.{taken_past, taken_next, taken-rest, taken_within}
use Rattle.text.proofs.reader.Reader.next_line.Goals as goal

pub returns-then-self-clause-line : goal.returns-then-self-clause-line
returns-then-self-clause-line c = none_next _ (omega (arith, length-drop c.args.self.now.at c.args.self.now.text.now, c.if-self.true))

pub returns-then-self-clause-rest : goal.returns-then-self-clause-rest
returns-then-self-clause-rest c = taken-rest _ _ _ (taken_past c.args.self.now.text.now c.args.self.now.at c.if-self.true)

pub returns-then-self-clause-taken : goal.returns-then-self-clause-taken
returns-then-self-clause-taken c = taken_past _ _ c.if-self.true

pub returns-clause-line : goal.returns-clause-line
returns-clause-line c =
    some_next _ (λ z. omega (arith, z, length-drop c.args.self.now.at c.args.self.now.text.now, c.if-self.false)) _ c.line_at-line.ensures _
    c.line_meaning-told.ensures

pub returns-clause-rest : goal.returns-clause-rest
returns-clause-rest c =
    taken-rest _ _ _ (taken_next c.args.self.now.text.now c.args.self.now.at _ c.line_at-line.ensures _ c.line_meaning-told.ensures c.if-self.false _ c.min-self.ensures)

pub returns-clause-taken : goal.returns-clause-taken
returns-clause-taken c =
    taken_next _ _ _ c.line_at-line.ensures _ c.line_meaning-told.ensures c.if-self.false _ c.min-self.ensures

pub returns-clause-within : goal.returns-clause-within
returns-clause-within c =
    taken_within c.args.self.now.text.now c.args.self.now.at _
    (taken_next _ _ _ c.line_at-line.ensures _ c.line_meaning-told.ensures c.if-self.false _ c.min-self.ensures)
