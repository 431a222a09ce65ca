-- A run's record, and the upper half's where it changes.
use Rattle.std.proofs.Common.{◌∙◌}
use native.Mathlib.Omega.{arith}
use Rattle.hexwrite.specs.LawsWriteText.{run_same, run_new}
use Rattle.hexwrite.proofs.run.Run.length.Goals as goal

pub returns-then-upper : goal.returns-then-upper
returns-then-upper c = (run_same _ _ _ (omega arith), omega arith)

pub returns-else-upper : goal.returns-else-upper
returns-else-upper c = (run_new _ _ _ (λ e. c.if-upper.false (c.upper.ensures ∙ e)), omega arith)
