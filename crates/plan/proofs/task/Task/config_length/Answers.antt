-- Nothing, or the parts summed.
use mathlib.Core.Path.{sym, ◌∙◌}
use Rattle.plan.specs.LawsPlanCount.{config_counted, no_config_counted}
use Rattle.plan.proofs.task.Task.config_length.Goals as goal

pub returns-then-not-some_written : goal.returns-then-not-some_written
returns-then-not-some_written c = no_config_counted _ _ _ _ _ (sym c.some_written.ensures ∙ c.if-not-some_written.true)

pub returns : goal.returns
returns c = config_counted _ _ _ _ _ _ _ (sym c.some_written.ensures ∙ c.if-not-some_written.false) c.erase_length.ensures c.writes_length.ensures
