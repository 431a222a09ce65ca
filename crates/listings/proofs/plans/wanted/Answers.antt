-- One of the four programs.
use Rattle.print.specs.LawsPrint.{prints_as, printed}
use Rattle.listings.specs.LawsPlans.{wanted_is}
use Rattle.listings.specs.LawsBounds.{wanted_short}
use Rattle.listings.proofs.plans.wanted.Goals as goal

pub returns : goal.returns
returns c = printed _ (wanted_short _ _ _) (prints_as _ _ _ _ _ (wanted_is _ _ _) c.put_program.ensures)
