-- What is left of the record's words gives the rest.
use Rattle.hexread.specs.LawsGive.{Giving}
use Rattle.hexread.proofs.give.give.Given as goal

abbrev pub invariant-loop-j : goal.invariant-loop-j
invariant-loop-j g l = Giving (goal.F-post g l.entry) l.n l.bytes l.initial.image l.image l.j
