-- A verdict, or a refusal.
use Rattle.std.proofs.Common.{◌≤◌, arith}
use Rattle.board.specs.LawsBoard.{most_reading}
use Rattle.print.specs.LawsPrint.{prints_as, printed}
use Rattle.reports.specs.LawsPrograms.{verify_refused, verify_same, verify_differs, verify_protected, verify_few, verify_short}
use Rattle.reports.proofs.verdicts.verify.Goals as goal

pub returns-in-Ok-Same : goal.returns-in-Ok-Same
returns-in-Ok-Same c = printed _ (verify_short _ _ _) (prints_as _ _ _ _ _ (verify_same _ _ _ c.in-Ok-Same.ensures.number (rw c.in-Ok-Same.field-0-is at c.in-Ok-Same.ensures.verdict)) c.verdict.ensures)

pub overflow_cast-count : goal.overflow_cast-count
overflow_cast-count c = let few : c.in-Ok-Differs.count ≤ most_reading = verify_few _ _ _ c.in-Ok-Differs.ensures.number _ _ (rw c.in-Ok-Differs.field-0-is at c.in-Ok-Differs.ensures.verdict) in omega arith

pub returns-in-Ok-Differs : goal.returns-in-Ok-Differs
returns-in-Ok-Differs c = printed _ (verify_short _ _ _) (prints_as _ _ _ _ _ (verify_differs _ _ _ c.in-Ok-Differs.ensures.number _ _ (rw c.in-Ok-Differs.field-0-is at c.in-Ok-Differs.ensures.verdict)) c.verdict-in-Ok-Differs.ensures)

pub returns-in-Ok-Protected : goal.returns-in-Ok-Protected
returns-in-Ok-Protected c = printed _ (verify_short _ _ _) (prints_as _ _ _ _ _ (verify_protected _ _ _ c.in-Ok-Protected.ensures.number (rw c.in-Ok-Protected.field-0-is at c.in-Ok-Protected.ensures.verdict)) c.verdict-in-Ok-Protected.ensures)

pub returns-in-Err : goal.returns-in-Err
returns-in-Err c = printed _ (verify_short _ _ _) (prints_as _ _ _ _ _ (verify_refused _ _ _ _ c.in-Err.ensures.number) (rw c.number.ensures at c.refusal.ensures))
