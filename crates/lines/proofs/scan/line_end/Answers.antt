-- One CR at most is taken off.
use Rattle.lines.specs.LawsLine.{stripped}
use Rattle.lines.proofs.scan.line_end.Goals as goal

pub returns : goal.returns
returns c = stripped _ _ _ c.unwrap_or.ensures c.strip_suffix.ensures.cases
