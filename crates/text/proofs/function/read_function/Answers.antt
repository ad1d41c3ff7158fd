-- `text::function::read_function` meets its contract: the tests come in the order of the refusals, and each way out is a law of
-- `FunctionEntry`.
use Rattle.std.proofs.Common.{sym, refl, ◌∙◌, rules}
use Rattle.rule.specs.Refusal.{refusal_of}
use Rattle.text.proofs.Taken.{refused_is}
use Rattle.text.proofs.Reading.{judged-good}
use Rattle.text.proofs.FunctionEntry.{text-over, low_differs, high_differs, table-over, fault-told, table_empty, settled_reads, zeros_left}
use Rattle.text.proofs.function.read_function.Goals.{then-low-size-via-then-low-size, then-low-size-via-else-low-size+then-high-size, then-low-size-via-else-low-size+else-high-size+then-size-gt4096}
use Rattle.text.proofs.function.read_function.Goals as goal

pub returns-then-text-gt32768 : goal.returns-then-text-gt32768
unfolding refusal_of
returns-then-text-gt32768 c =
    rw (refused_is c.into.result c.into.ensures.0 c.into.ensures.1) (text-over _ _ _ _ c.if-text-gt32768.true)

pub returns-then-low-size : goal.returns-then-low-size
unfolding refusal_of
returns-then-low-size c =
    let r = c.into-then-low-size in
    rw (refused_is r.result r.ensures.0 r.ensures.1)
    (elim c.then-low-size.branch [
      | then-low-size-via-then-low-size w ↦ low_differs _ _ _ _ c.if-text-gt32768.false w.if-low-size.true
      | then-low-size-via-else-low-size+then-high-size w ↦
          high_differs _ _ _ _ c.if-text-gt32768.false w.if-low-size.false w.if-high-size.true
      | then-low-size-via-else-low-size+else-high-size+then-size-gt4096 w ↦
          table-over _ _ _ _ c.if-text-gt32768.false w.if-low-size.false w.if-high-size.false w.if-size-gt4096.true
    ])

pub returns-in-Err : goal.returns-in-Err
unfolding refusal_of
returns-in-Err c =
    rw (refused_is c.returning.result c.returning.ensures.refusal c.returning.ensures.returned)
    (fault-told _ _ _ _ c.if-text-gt32768.false c.if-low-size.false c.if-high-size.false c.if-size-gt4096.false _
    (sym c.in-Err.is ∙ c.judge.ensures) _ _ _ (zeros_left _ _ (c.fill.ensures.after (λ y e. e)))
    (zeros_left _ _ (c.fill-in-Err.ensures.after (λ y e. e))) (zeros_left _ _ (c.fill-in-Err-2.ensures.after (λ y e. e))))

pub settle_function-requires-clause-empty : goal.settle_function-requires-clause-empty
settle_function-requires-clause-empty c = (
  refl,
  table_empty _ _ _ _ c.if-text-gt32768.false c.if-low-size.false c.if-high-size.false c.if-size-gt4096.false _ _
      (judged-good _ c.in-Ok.shape (sym c.in-Ok.is ∙ c.judge.ensures)),
)

pub returns : goal.returns
returns c =
    let q = settled_reads _ _ _ _ c.if-text-gt32768.false c.if-low-size.false c.if-high-size.false c.if-size-gt4096.false _ _
    (judged-good _ c.in-Ok.shape (sym c.in-Ok.is ∙ c.judge.ensures)) _ _ _ _ c.settle_function.ensures.settled in
    search rules
