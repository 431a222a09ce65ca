-- Each field passed is sound.
use Rattle.std.proofs.Common.{◌≡◌, true}
use Rattle.sheet.specs.LawsPlaces.{fields_ok}
use Rattle.sheet.proofs.body.fields_ok.Given as goal

abbrev pub invariant-loop-k : goal.invariant-loop-k
invariant-loop-k l = fields_ok l.text l.at l.k ≡ true
