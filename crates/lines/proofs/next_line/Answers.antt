-- The search for LF ends where the line does, but for a CR.
use Rattle.std.proofs.Common.{arith}
use Rattle.lines.specs.LawsNext.{end_after, next_is, next_none, number_told}
use Rattle.lines.proofs.next_line.Goals as goal

pub returns-then-text-at : goal.returns-then-text-at
returns-then-text-at c = next_none _ _ _ c.if-text-at.true

pub slice_bounds-line_end-count : goal.slice_bounds-line_end-count
slice_bounds-line_end-count c = end_after _ _ _ c.if-text-at.false c.line_stop-end.ensures.0

pub slice_bounds-line_end-start : goal.slice_bounds-line_end-start
slice_bounds-line_end-start c = end_after _ _ _ c.if-text-at.false c.line_stop-end.ensures.0

pub returns : goal.returns
returns c = next_is _ _ _ c.if-text-at.false _ _ _ c.line_stop-end.ensures.0 c.line_end.ensures (number_told _ _ (omega arith) c.saturating_add.ensures)
