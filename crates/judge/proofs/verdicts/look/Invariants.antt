-- What is found up to the entry that is next.
use Rattle.std.proofs.Common.{◌≡◌, ◌≤◌}
use Rattle.judge.specs.Verify.{entry_differs}
use Rattle.judge.specs.LawsCount.{Seen}
use Rattle.judge.proofs.verdicts.look.Given as goal

abbrev pub invariant-loop-i : goal.invariant-loop-i
invariant-loop-i l = (l.i-iterator.end ≡ l.fn.range.end) × (l.i-iterator.start ≤ l.fn.range.end) × Seen l.i-iterator.start (entry_differs l.d l.wanted l.reading) l.found
