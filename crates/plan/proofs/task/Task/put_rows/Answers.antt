-- The rows from here on are left to be written.
use mathlib.Core.Path.{sym, ◌∙◌}
use Rattle.plan.specs.LawsPlanSteps.{row_same, rows_all, rows_yes, rows_no, rows_none}
use Rattle.plan.specs.LawsPlanBounds.{some_row}
use Rattle.plan.specs.LawsPlanWrote.{opened, left_same, left_next, left_none, room_next, room_same, wrote_same}
use Rattle.plan.proofs.task.Task.put_rows.Goals as goal
use Rattle.plan.proofs.task.Task.put_rows.Goals.{then-row_differs, else-row_differs}

pub nonzero_div-k-end : goal.nonzero_div-k-end
nonzero_div-k-end c = some_row _ c.args.self.now.rules

pub loop-k-init : goal.loop-k-init
loop-k-init c = opened (rows_all _ _ _ _ _)

pub put_row-requires-clause-room : goal.put_row-requires-clause-room
put_row-requires-clause-room c =
    room_same (row_same _ _ _ _ _ _ (sym c.is_erased.ensures))
    (room_next _ (left_same (rows_yes _ _ _ _ _ _ _ c.loop-k-test.true (sym c.row_differs.ensures ∙ c.if-row_differs.true)) c.loop-k.invariant) c.requires)

pub loop-k-preserved : goal.loop-k-preserved
loop-k-preserved c = elim c.if-row_differs.branch [
  | then-row_differs w ↦ rw (w.w-is, w.at-is)
      (left_next _ (left_same (rows_yes _ _ _ _ _ _ _ c.loop-k-test.true (sym c.row_differs.ensures ∙ w.if-row_differs.true)) c.loop-k.invariant)
      (wrote_same (row_same _ _ _ _ _ _ w.is_erased.ensures) w.put_row.ensures))
  | else-row_differs w ↦ rw (w.w-is, w.at-is)
      (left_same (rows_no _ _ _ _ _ _ _ c.loop-k-test.true (sym c.row_differs.ensures ∙ w.if-row_differs.false)) c.loop-k.invariant)
]

pub returns : goal.returns
returns c = left_none (left_same (rows_none _ _ _ _ _ _ _ c.loop-k-test.false) c.loop-k.invariant)
