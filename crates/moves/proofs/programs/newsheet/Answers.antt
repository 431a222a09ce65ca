-- The sheet in this form.
use Rattle.print.specs.LawsPrint.{prints_as, printed}
use Rattle.moves.specs.LawsPrograms.{newsheet_is, newsheet_short}
use Rattle.moves.proofs.programs.newsheet.Goals as goal

pub returns : goal.returns
returns c = printed _ (newsheet_short _ _) (prints_as _ _ _ _ _ (newsheet_is _ _) c.print_moved.ensures)
