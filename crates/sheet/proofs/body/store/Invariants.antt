-- Each word passed is stored, and the rest is as it was.
use Rattle.std.proofs.Common.{◌≡◌}
use Rattle.sheet.specs.LawsRead.{stored}
use Rattle.sheet.proofs.body.store.Given as goal

abbrev pub invariant-loop-i : goal.invariant-loop-i
invariant-loop-i l = l.buffer ≡ stored l.program l.text l.i l.initial.buffer
