-- The rows from here on are left to be counted.
use Prim.Native.Nat.{◌+◌, ◌*◌}
use native.Mathlib.Omega.{arith}
use mathlib.Core.Path.{◌≡◌, sym, ◌∙◌}
use Rattle.target.specs.LawsChip.{sound_chip}
use Rattle.plan.specs.LawsPlanSteps.{rows_all, rows_no, rows_none, row_after}
use Rattle.plan.specs.LawsPlanBounds.{some_row, rows_few}
use Rattle.plan.specs.LawsPlanCount.{counting_all, counting_same, counting_none, erase_is, row_counted}
use Rattle.plan.proofs.task.Task.rows_length.Goals as goal
use Rattle.plan.proofs.task.Task.rows_length.Goals.{then-row_differs, else-row_differs}

pub nonzero_div-k-end : goal.nonzero_div-k-end
nonzero_div-k-end c = some_row _ c.args.self.now.rules

pub loop-k-init : goal.loop-k-init
loop-k-init c = record { behind = omega arith; counted = counting_same _ _ _ _ _ (rows_all _ _ _ _ _) (counting_all _ _ (rows_few _ c.args.self.now.rules _ _ _)) }

pub loop-k-preserved : goal.loop-k-preserved
loop-k-preserved c =
    let n : (c.loop-k.k + 1) * c.args.self.now.aim.device.row ≡ c.loop-k.k * c.args.self.now.aim.device.row + c.args.self.now.aim.device.row = row_after c.loop-k.k c.args.self.now.aim.device.row in
    elim c.if-row_differs.branch [
      | then-row_differs w ↦ record {
        behind = omega arith;
        counted = rw (w.steps-is, w.at-is)
            (row_counted _ _ _ _ _ _ _ _ _ _ _ _ (sound_chip _ c.args.self.now.rules) (erase_is _ _ _ w.is_erased.ensures w.erase_length-erased.ensures) (omega arith) c.loop-k-test.true
            (sym c.row_differs.ensures ∙ w.if-row_differs.true) c.loop-k.invariant.counted);
      }
      | else-row_differs w ↦ record {
        behind = omega arith;
        counted = rw (w.steps-is, w.at-is)
            (counting_same _ _ _ _ _ (rows_no _ _ _ _ _ _ _ c.loop-k-test.true (sym c.row_differs.ensures ∙ w.if-row_differs.false)) c.loop-k.invariant.counted);
      }
    ]

pub returns : goal.returns
returns c = counting_none _ _ _ (counting_same _ _ _ _ _ (rows_none _ _ _ _ _ _ _ c.loop-k-test.false) c.loop-k.invariant.counted)
