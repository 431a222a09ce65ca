-- The words from here on are left to be counted.
use native.Mathlib.Omega.{arith}
use mathlib.Core.Path.{sym, ◌∙◌}
use Rattle.plan.specs.LawsPlanSteps.{writes_no, writes_none}
use Rattle.plan.specs.LawsPlanBounds.{writes_few}
use Rattle.plan.specs.LawsPlanCount.{counting_all, counting_same, counting_none, word_counted}
use Rattle.plan.proofs.task.Task.writes_length.Goals as goal
use Rattle.plan.proofs.task.Task.writes_length.Goals.{then-is_written, else-is_written}

pub loop-k-init : goal.loop-k-init
loop-k-init c = record { behind = omega arith; counted = counting_all _ _ (writes_few _ _ 9 (omega arith)) }

pub loop-k-preserved : goal.loop-k-preserved
loop-k-preserved c = elim c.if-is_written.branch [
  | then-is_written w ↦ record {
    behind = omega arith;
    counted = rw (w.steps-is, w.at-is)
        (word_counted _ _ _ _ _ _ _ _ c.loop-k-test.true (sym c.is_written.ensures ∙ w.if-is_written.true) c.loop-k.invariant.counted);
  }
  | else-is_written w ↦ record {
    behind = omega arith;
    counted = rw (w.steps-is, w.at-is)
        (counting_same _ _ _ _ _ (writes_no _ _ _ _ _ c.loop-k-test.true (sym c.is_written.ensures ∙ w.if-is_written.false)) c.loop-k.invariant.counted);
  }
]

pub returns : goal.returns
returns c = counting_none _ _ _ (counting_same _ _ _ _ _ (writes_none _ _ _ _ _ c.loop-k-test.false) c.loop-k.invariant.counted)
