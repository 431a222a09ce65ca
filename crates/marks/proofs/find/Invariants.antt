use Rattle.std.proofs.Common.{◌≤◌}
use Rattle.marks.specs.LawsMarks.{Passed}
use Rattle.marks.proofs.find.Given as goal

abbrev pub invariant-loop-at : goal.invariant-loop-at
invariant-loop-at l = l.from ≤ l.end → Passed l.text l.from l.end l.mark l.at
