-- The line ends at the first LF, or with the text.
use Rattle.trials.specs.LawsTyped.{next, next_shorter}
use Rattle.trials.proofs.typed.cut.Goals as goal

pub returns-clause-next : goal.returns-clause-next
returns-clause-next c = next _ _ c.find-stop.ensures.place c.requires _ c.min.ensures

pub returns-clause-shorter : goal.returns-clause-shorter
returns-clause-shorter c = next_shorter _ _ c.find-stop.ensures.place c.requires _ c.min.ensures
