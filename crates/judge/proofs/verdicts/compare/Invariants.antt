-- What is found in the stretches passed.
use Rattle.std.proofs.Common.{◌*◌}
use Rattle.judge.specs.Verify.{entry_differs}
use Rattle.judge.specs.LawsCount.{Seen}
use Rattle.judge.proofs.verdicts.compare.Given as goal

abbrev pub invariant-loop-k : goal.invariant-loop-k
invariant-loop-k l = Seen (l.k * 8) (entry_differs l.d l.wanted l.reading) l.found
