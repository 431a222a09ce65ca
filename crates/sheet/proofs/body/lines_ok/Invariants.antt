-- Each line passed is sound.
use Rattle.std.proofs.Common.{◌≡◌, true}
use Rattle.sheet.specs.LawsPlaces.{lines_ok}
use Rattle.sheet.proofs.body.lines_ok.Given as goal

abbrev pub invariant-loop-k : goal.invariant-loop-k
invariant-loop-k l = lines_ok l.text l.k ≡ true
