-- The two parts summed.
use mathlib.Core.Path.{sym}
use Rattle.plan.specs.LawsPlanSteps.{body_opens}
use Rattle.plan.specs.LawsPlanCount.{counts_same, counts_then}
use Rattle.plan.proofs.task.Task.length.Goals as goal

pub returns : goal.returns
returns c = counts_same _ _ _ _ (sym (body_opens _ _ _ _ _ _)) (counts_then _ _ _ _ _ _ c.rows_length.ensures c.config_length.ensures)
