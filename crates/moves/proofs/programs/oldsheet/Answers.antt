-- The sheet in this form.
use Rattle.print.specs.LawsPrint.{prints_as, printed}
use Rattle.moves.specs.LawsPrograms.{oldsheet_is, oldsheet_short}
use Rattle.moves.proofs.programs.oldsheet.Goals as goal

pub returns : goal.returns
returns c = printed _ (oldsheet_short _ _) (prints_as _ _ _ _ _ (oldsheet_is _ _) c.print_moved.ensures)
