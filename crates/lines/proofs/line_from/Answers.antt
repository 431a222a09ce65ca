-- What the reader takes is the line that it stands before.
use Rattle.lines.specs.LawsNext.{taken_is}
use Rattle.lines.proofs.line_from.Goals as goal

pub returns : goal.returns
returns c = taken_is _ _ _ c.take.ensures
