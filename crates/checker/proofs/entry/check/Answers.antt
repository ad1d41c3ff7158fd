-- `checker::entry::check` meets its contract: the input's conditions first, then the first malformed cube, then the verdict.
use Rattle.checker.proofs.Entering.{input_refused, cube-refused, judge_asks, judged-answer}
use Rattle.checker.proofs.entry.check.Goals as goal

pub returns-in_err-input_refusal : goal.returns-in_err-input_refusal
returns-in_err-input_refusal c = input_refused _ _ _ _ _ _ _ _ _ c.in_err-input_refusal.ensures _ c.from_residual.ensures.1

pub returns-in-Some : goal.returns-in-Some
returns-in-Some c = cube-refused _ _ _ _ _ _ _ _ _ c.in_ok-input_refusal.ensures _ c.in-Some.ensures _ c.returning.ensures.refusal c.returning.ensures.returned

pub judge-requires : goal.judge-requires
judge-requires c = judge_asks _ _ _ _ _ _ _ _ _ c.in_ok-input_refusal.ensures c.in_default.ensures

pub returns : goal.returns
returns c = judged-answer _ _ _ _ _ _ _ _ _ c.in_ok-input_refusal.ensures c.in_default.ensures _ c.judge.ensures
