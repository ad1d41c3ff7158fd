-- `text::judge::judge` meets its contract. The loop's invariant: what was said so far and what is left of the text give the whole answer,
-- and the rows and the lines so far are no more than the bytes. The measure is what is left of the text.
use Rattle.std.proofs.Common.{◌≡◌, sym, ap, ◌∙◌, drop, arith}
use Rattle.line.specs.Bytes.{lines}
use Rattle.text.specs.Outcome.{start, finish, run, outcome}
use Rattle.text.specs.Judged.{judged_plus, judged}
use Rattle.text.proofs.NextLine.{took, no_lines}
use Rattle.text.proofs.Judging.{text-over, line_faulty, line_ending, line_on, few-rows}
use Rattle.text.proofs.judge.judge.Goals.{in-Some+in-Ended, in_default}
use Rattle.text.proofs.judge.judge.Goals as goal

pub loop-line-init : goal.loop-line-init
unfolding start outcome judged
loop-line-init c =
    let e = c.nothing_said-state.ensures in
    record {
      told = ap (λ s. judged_plus s.rows (run c.args.asked s 1 (lines c.args.text.now))) e;
      few = omega (arith, ap (λ s. s.rows) e);
      line = omega arith;
    }

pub returns-in-Fault : goal.returns-in-Fault
unfolding judged_plus
returns-in-Fault c =
    let l = c.loop-line in
    let t = took c.in-Some.is c.next_line.ensures.line c.next_line.ensures.rest in
    ap (judged_plus l.state.rows) (sym (line_faulty _ _ l.state l.k _ _ t (sym c.in-Fault.is ∙ c.take.ensures))) ∙ l.invariant.told

pub loop-line-smaller : goal.loop-line-smaller
loop-line-smaller c = (took c.in-Some.is c.next_line.ensures.line c.next_line.ensures.rest).shorter

pub loop-line-preserved : goal.loop-line-preserved
loop-line-preserved c =
    let l = c.loop-line in
    let t = took c.in-Some.is c.next_line.ensures.line c.next_line.ensures.rest in
    let e = sym c.in-On.is ∙ c.take.ensures in
    record {
      told = line_on _ _ l.state l.k _ _ t _ e ∙ l.invariant.told;
      few = omega (arith, t.shorter, few-rows _ _ l.state l.k _ _ t _ e);
      line = omega (arith, t.shorter);
    }

pub returns : goal.returns
returns c =
    let l = c.loop-line in
    let done : run c.args.asked l.state l.k (lines (drop l.reader.at l.reader.text.now)) ≡ finish l.state l.k = elim c.match-next_line.branch [
      | in-Some+in-Ended w ↦
          line_ending _ _ l.state l.k _ _ (took w.in-Some.is c.next_line.ensures.line c.next_line.ensures.rest)
          (sym w.in-Ended.is ∙ w.take.ensures)
      | in_default w ↦ text-over _ _ l.state l.k (no_lines _ w.in_default.is c.next_line.ensures.line)
    ] in
    c.finish.ensures ∙ ap (judged_plus l.state.rows) (sym done) ∙ l.invariant.told
