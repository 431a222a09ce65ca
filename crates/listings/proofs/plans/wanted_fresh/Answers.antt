-- One of the four programs.
use Rattle.print.specs.LawsPrint.{prints_as, printed}
use Rattle.listings.specs.LawsPlans.{wanted_fresh_is}
use Rattle.listings.specs.LawsBounds.{wanted_fresh_short}
use Rattle.listings.proofs.plans.wanted_fresh.Goals as goal

pub returns : goal.returns
returns c = printed _ (wanted_fresh_short _ _ _) (prints_as _ _ _ _ _ (wanted_fresh_is _ _ _) c.put_program.ensures)
