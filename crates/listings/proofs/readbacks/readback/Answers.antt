-- The stream is printed, or why there is none.
use Rattle.std.proofs.Common.{ap, arith}
use Rattle.print.specs.LawsPrint.{prints_as, printed}
use Rattle.listings.specs.LawsPlanned.{readback_refused, readback_served}
use Rattle.listings.specs.LawsBounds.{readback_short}
use Rattle.listings.proofs.readbacks.readback.Goals as goal

pub put_read_back-requires : goal.put_read_back-requires
put_read_back-requires c = (readback_served _ _ c.in-Ok.ensures.number _ (ap (λ x. x.device) c.in-Ok.ensures.found)).0

pub returns-in-Ok : goal.returns-in-Ok
returns-in-Ok c = printed _ (readback_short _ _) (prints_as _ _ _ _ _ (readback_served _ _ c.in-Ok.ensures.number _ (ap (λ x. x.device) c.in-Ok.ensures.found)).1 c.put_read_back.ensures)

pub returns-in-Err : goal.returns-in-Err
returns-in-Err c = printed _ (readback_short _ _) (prints_as _ _ _ _ _ (readback_refused _ _ _ c.in-Err.ensures.number _ (omega arith)) c.refusal.ensures)
