-- The refusal, what is left, or the stream: the planner had room for it.
use Rattle.std.proofs.Common.{ap, arith}
use Rattle.print.specs.LawsPrint.{prints_as}
use Rattle.listings.specs.LawsPlans.{is_sheet, end_refused, end_left, end_stream}
use Rattle.listings.proofs.plans.put_planned.Goals as goal

pub returns-in-Err : goal.returns-in-Err
returns-in-Err c = prints_as _ _ _ _ _ (end_refused _ _ _ _ _ _ _ c.in-Err.ensures.number _ (omega arith)) c.refusal.ensures

pub returns-in-Stream : goal.returns-in-Stream
returns-in-Stream c = prints_as _ _ _ _ _ (end_stream _ _ _ _ _ _ (ap is_sheet c.in-Stream.is) c.in-Ok.ensures.number _ _ c.in-Ok.ensures.steps) c.put_stream.ensures

pub returns-in-Sheet : goal.returns-in-Sheet
returns-in-Sheet c = prints_as _ _ _ _ _ (end_left _ _ _ _ _ _ (ap is_sheet c.in-Sheet.is) c.in-Ok.ensures.number) c.put_left.ensures
