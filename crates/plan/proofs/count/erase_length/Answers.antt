-- One step or none.
use Rattle.plan.specs.LawsPlanCount.{erase_counted}
use Rattle.plan.proofs.count.erase_length.Goals as goal

pub returns : goal.returns
returns c = rw c.from.ensures (erase_counted c.args.erase)
