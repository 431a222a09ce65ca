-- The last of seven fields, or every bit.
use Rattle.table.specs.LawsLine.{mask_few}
use Rattle.table.proofs.line.line_mask.Goals as goal

pub returns-in-None : goal.returns-in-None
returns-in-None c = mask_few _ c.in-None.ensures
