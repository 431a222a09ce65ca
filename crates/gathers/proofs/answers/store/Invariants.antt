-- Each word passed is stored, and the rest is as it was.
use Rattle.std.proofs.Common.{◌≡◌}
use Rattle.gathers.specs.LawsStored.{stored}
use Rattle.gathers.proofs.answers.store.Given as goal

abbrev pub invariant-loop-i : goal.invariant-loop-i
invariant-loop-i l = l.buffer ≡ stored l.text l.i l.initial.buffer
