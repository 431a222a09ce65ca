-- A refusal is printed where nothing was.
use Rattle.print.specs.LawsPrint.{prints_as, printed}
use Rattle.gathers.specs.LawsGather.{gather_refused, gather_short}
use Rattle.gathers.proofs.gather.Goals as goal

pub returns-in-Err : goal.returns-in-Err
returns-in-Err c = printed _ (gather_short _ _ _) (prints_as _ _ _ _ _ (gather_refused _ _ _ _ c.in-Err.ensures.number) (rw (c.in-Err.ensures.text, c.number.ensures) at c.refusal.ensures))
