-- The next line is the one that the reader stands before.
use Rattle.lines.specs.LawsNext.{takes_line}
use Rattle.lines.proofs.Lines.take.Goals as goal

pub returns : goal.returns
returns c = takes_line _ _ c.next_line-next.ensures
