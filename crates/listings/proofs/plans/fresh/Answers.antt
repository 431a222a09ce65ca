-- One of the four programs.
use Rattle.print.specs.LawsPrint.{prints_as, printed}
use Rattle.listings.specs.LawsPlans.{fresh_is}
use Rattle.listings.specs.LawsBounds.{fresh_short}
use Rattle.listings.proofs.plans.fresh.Goals as goal

pub returns : goal.returns
returns c = printed _ (fresh_short _ _ _) (prints_as _ _ _ _ _ (fresh_is _ _ _) c.put_program.ensures)
