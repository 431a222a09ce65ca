-- A sum, or a refusal.
use Rattle.std.proofs.Common.{arith}
use Rattle.print.specs.LawsPrint.{prints_as, printed}
use Rattle.reports.specs.LawsPrograms.{checksum_refused, checksum_found, checksum_short}
use Rattle.reports.proofs.checksums.checksum.Goals as goal

pub returns-in-Ok : goal.returns-in-Ok
returns-in-Ok c = printed _ (checksum_short _ _) (prints_as _ _ _ _ _ (checksum_found _ _ c.in-Ok.ensures.number _ c.in-Ok.ensures.sum) c.sum.ensures)

pub returns-in-Err : goal.returns-in-Err
returns-in-Err c = printed _ (checksum_short _ _) (checksum_refused _ _ _ c.in-Err.ensures.number _ _ _ _ c.refusal.ensures (omega arith))
