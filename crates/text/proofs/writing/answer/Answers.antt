-- `text::writing::answer` meets its contract: the tests come in the order of the refusals.
use mathlib.Core.Path.{sym, ap, ◌∙◌}
use native.Mathlib.Omega.{arith}
use Prim.Native.Nat.{ℕ}
use Rattle.std.proofs.Common.{Ok}
use Rattle.rule.specs.Number.{first_malformed}
use Rattle.rule.proofs.Refusals.{some_number_some, some_number_none}
use Rattle.text.proofs.Written.{given, no_columns, over-columns, over-list, has_malformed, too_short, fitting}
use Rattle.text.proofs.writing.answer.Goals as goal
use Rattle.text.proofs.writing.answer.Goals.{then-columns-lt1-via-then-columns-lt1, then-columns-lt1-via-else-columns-lt1+then-columns-gt16}

pub returns-then-columns-lt1 : goal.returns-then-columns-lt1
returns-then-columns-lt1 c =
    let n = c.args.columns in
    let xs = c.args.list.now in
    let e = given c.into.ensures.0 c.into.ensures.1 in
    elim c.then-columns-lt1.branch [
      | then-columns-lt1-via-then-columns-lt1 w ↦ e ∙ no_columns n xs c.args.room w.if-columns-lt1.true
      | then-columns-lt1-via-else-columns-lt1+then-columns-gt16 w ↦ e ∙ over-columns n xs c.args.room w.if-columns-lt1.false w.if-columns-gt16.true
    ]

pub returns-then-list-gt16384 : goal.returns-then-list-gt16384
returns-then-list-gt16384 c =
    let g = c.into-then-list-gt16384.ensures in
    given g.0 g.1 ∙
    over-list c.args.columns c.args.list.now c.args.room c.if-columns-lt1.false c.if-columns-gt16.false c.if-list-gt16384.true

pub returns-in-Some : goal.returns-in-Some
returns-in-Some c =
    let n = c.args.columns in
    let xs = c.args.list.now in
    let g = c.returning.ensures in
    let h = some_number_some (first_malformed n xs) c.in-Some.place (sym c.first_malformed.ensures ∙ c.in-Some.is) in
    given g.refusal (g.returned ∙ sym h.0) ∙
    has_malformed n xs c.args.room c.if-columns-lt1.false c.if-columns-gt16.false c.if-list-gt16384.false (λ z. omega (arith, h))

pub returns-then-room-needed : goal.returns-then-room-needed
returns-then-room-needed c =
    let n = c.args.columns in
    let xs = c.args.list.now in
    let g = c.returning-then-room-needed.ensures in
    let e = c.bytes_needed-needed.ensures in
    given g.refusal (g.returned ∙ e) ∙
    too_short n xs c.args.room c.if-columns-lt1.false c.if-columns-gt16.false c.if-list-gt16384.false
    (some_number_none (first_malformed n xs) (sym c.first_malformed.ensures ∙ c.in_default.is)) (omega (arith, e))

pub returns : goal.returns
returns c =
    let n = c.args.columns in
    let xs = c.args.list.now in
    let e = c.bytes_needed-needed.ensures in
    ap (λ (k : ℕ). Ok k) e ∙
    fitting n xs c.args.room c.if-columns-lt1.false c.if-columns-gt16.false c.if-list-gt16384.false
    (some_number_none (first_malformed n xs) (sym c.first_malformed.ensures ∙ c.in_default.is)) (omega (arith, e))
