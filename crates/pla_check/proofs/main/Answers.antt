-- What `check_answer` returns counts bytes of the room that it filled.
use Rattle.std.proofs.Common.{sym, length-take-le}
use Rattle.desk.proofs.Bounds.{counts_inside}
use Rattle.pla_check.proofs.main.Goals as goal

pub slice_bounds-answer-end : goal.slice_bounds-answer-end
slice_bounds-answer-end c = counts_inside c.check_answer-said.ensures

pub slice_bounds-write_all-end : goal.slice_bounds-write_all-end
slice_bounds-write_all-end c = sym (length-take-le _ _ (counts_inside c.check_answer-said.ensures))
