-- One of the four programs.
use Rattle.print.specs.LawsPrint.{prints_as, printed}
use Rattle.listings.specs.LawsPlans.{update_is}
use Rattle.listings.specs.LawsBounds.{update_short}
use Rattle.listings.proofs.plans.update.Goals as goal

pub returns : goal.returns
returns c = printed _ (update_short _ _ _) (prints_as _ _ _ _ _ (update_is _ _ _) c.put_program.ensures)
