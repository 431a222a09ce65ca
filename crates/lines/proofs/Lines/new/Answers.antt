-- The reader that the code makes is the one before the first line.
use Rattle.std.proofs.Common.{refl}
use Rattle.lines.specs.Lines.{at_start}
use Rattle.lines.proofs.Lines.new.Goals as goal

pub returns : goal.returns
unfolding at_start
returns c = refl
