-- The whole text, or a refusal.
use Rattle.print.specs.LawsPrint.{prints_as, printed}
use Rattle.reports.specs.LawsDump.{dump_refused, dump_all, dump_short}
use Rattle.reports.proofs.dumps.dump.Goals as goal

pub returns-in-Ok : goal.returns-in-Ok
returns-in-Ok c = printed _ (dump_short _ _) (prints_as _ _ _ _ _ (dump_all _ _ c.in-Ok.ensures.number _ _ c.in-Ok.ensures.text) c.text.ensures)

pub returns-in-Err : goal.returns-in-Err
returns-in-Err c = printed _ (dump_short _ _) (prints_as _ _ _ _ _ (dump_refused _ _ _ c.in-Err.ensures.number) (rw c.number.ensures at c.refusal.ensures))
