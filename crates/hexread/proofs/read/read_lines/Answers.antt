-- The lines ahead give the rest.
use Rattle.std.proofs.Common.{sym, ◌∙◌}
use native.Mathlib.Omega.{arith}
use Rattle.hexread.specs.LawsReader.{lines_ended, lines_not_ended}
use Rattle.hexread.specs.LawsNext.{line_left, line_fits, ahead_next, refused_next}
use Rattle.hexread.proofs.read.read_lines.Goals as goal

pub slice_bounds-line-count : goal.slice_bounds-line-count
slice_bounds-line-count c = let n = line_left _ _ _ _ _ _ _ _ c.loop-at.invariant.1 c.loop-at-test.true _ c.line_from-next.ensures in omega (arith, n)

pub slice_bounds-line-start : goal.slice_bounds-line-start
slice_bounds-line-start c = let n = line_left _ _ _ _ _ _ _ _ c.loop-at.invariant.1 c.loop-at-test.true _ c.line_from-next.ensures in omega (arith, n)

pub slice_bounds-line-end : goal.slice_bounds-line-end
slice_bounds-line-end c = let n = line_left _ _ _ _ _ _ _ _ c.loop-at.invariant.1 c.loop-at-test.true _ c.line_from-next.ensures in omega (arith, n)

pub loop-at-smaller : goal.loop-at-smaller
loop-at-smaller c = let n = line_left _ _ _ _ _ _ _ _ c.loop-at.invariant.1 c.loop-at-test.true _ c.line_from-next.ensures in omega (arith, n)

pub column-requires : goal.column-requires
column-requires c = line_fits _ _ _ _ _ _ _ _ c.loop-at.invariant.1 c.loop-at-test.true _ c.line_from-next.ensures

pub returns-in-Err : goal.returns-in-Err
returns-in-Err c = rw (c.refusal.ensures, c.column.ensures)
    (refused_next _ _ _ _ _ _ _ _ c.loop-at.invariant.1 c.loop-at-test.true _ c.line_from-next.ensures _ _ _ _ (rw c.loop-at.invariant.0 at c.in-Err.ensures.taken))

pub loop-at-preserved : goal.loop-at-preserved
loop-at-preserved c = (
  c.take_line.ensures.words ∙ c.loop-at.invariant.0,
  ahead_next _ _ _ _ _ _ _ _ c.loop-at.invariant.1 c.loop-at-test.true _ c.line_from-next.ensures _ _ _ (rw c.loop-at.invariant.0 at c.in_default.ensures.taken) c.take_line.auto.image,
)

pub returns-then-ended : goal.returns-then-ended
returns-then-ended c = lines_ended _ _ _ _ _ _ _ _ c.loop-at.invariant.1 c.loop-at-test.false (sym c.ended.ensures ∙ c.if-ended.true)

pub returns-else-ended : goal.returns-else-ended
returns-else-ended c = rw c.at_no_line.ensures (lines_not_ended _ _ _ _ _ _ _ _ c.loop-at.invariant.1 c.loop-at-test.false (sym c.ended.ensures ∙ c.if-ended.false))
