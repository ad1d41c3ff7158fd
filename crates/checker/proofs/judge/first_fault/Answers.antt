-- `checker::judge::first_fault` meets its contract: the faults are looked for in document 01's order, and the first that is found is the
-- verdict.
use mathlib.Core.Path.{◌∙◌}
use Rattle.graph.proofs.Refusals.{passed_on}
use Rattle.checker.proofs.Deciding.{judged_a, judged_b, judged_c, judged_d}
use Rattle.checker.proofs.judge.first_fault.Goals as goal

pub returns-in_err-off_fault : goal.returns-in_err-off_fault
returns-in_err-off_fault c =
    record {
      verdict = λ L U e d w.
          passed_on c.from_residual.result c.in_err-off_fault.field-0.0 c.from_residual.ensures.1 ∙
          judged_a _ _ _ _ L U e d w _ (c.in_err-off_fault.ensures.fault L U);
    }

pub returns-in_err-missing_fault : goal.returns-in_err-missing_fault
returns-in_err-missing_fault c =
    record {
      verdict = λ L U e d w.
          passed_on c.from_residual-in_err-missing_fault.result c.in_err-missing_fault.field-0.0 c.from_residual-in_err-missing_fault.ensures.1 ∙
          judged_b _ _ _ _ L U e d w _ (c.in_ok-off_fault.ensures.fault L U) _ _ _ c.cover.ensures c.left_into.ensures _ (c.in_err-missing_fault.ensures.fault L U _);
    }

pub returns-in_err-literal_fault : goal.returns-in_err-literal_fault
returns-in_err-literal_fault c =
    record {
      verdict = λ L U e d w.
          passed_on c.from_residual-in_err-literal_fault.result c.in_err-literal_fault.field-0.0 c.from_residual-in_err-literal_fault.ensures.1 ∙
          judged_c _ _ _ _ L U e d w _ (c.in_ok-off_fault.ensures.fault L U) _ _ _ c.cover.ensures c.left_into.ensures _ (c.in_ok-missing_fault.ensures.fault L U _) _ (c.in_err-literal_fault.ensures.fault L U);
    }

pub returns : goal.returns
returns c =
    record {
      verdict = λ L U e d w.
          judged_d _ _ _ _ L U e d w _ (c.in_ok-off_fault.ensures.fault L U) _ _ _ c.cover.ensures c.left_into.ensures _ (c.in_ok-missing_fault.ensures.fault L U _) _ (c.in_ok-literal_fault.ensures.fault L U) _ c.left_into-2.ensures _ (c.cube_fault.ensures.fault L U);
    }
