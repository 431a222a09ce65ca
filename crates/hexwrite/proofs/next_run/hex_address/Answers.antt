-- An entry of the image always has a place.
use Rattle.hexwrite.specs.LawsWriteRun.{address_at, address_nowhere}
use Rattle.std.proofs.Common.{refl}
use Rattle.hexwrite.proofs.next_run.hex_address.Goals as goal

pub returns-in-Some : goal.returns-in-Some
returns-in-Some c = address_at c.requires.0 c.requires.1 refl
    c.in-Some.ensures c.double.ensures

pub returns-in-None : goal.returns-in-None
returns-in-None c = address_nowhere c.requires.0 c.requires.1 refl c.in-None.ensures
