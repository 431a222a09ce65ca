-- Line 1 is of a form or of none.
use Rattle.sheet.specs.LawsFirstLine.{first_given, first_refused}
use Rattle.sheet.proofs.read.read_id.Goals as goal

pub returns-in-None : goal.returns-in-None
returns-in-None c = first_refused _ c.in-None.ensures

pub returns-in-Some : goal.returns-in-Some
returns-in-Some c = first_given _ c.in-Some.ensures.0.ok _ c.in-Some.ensures.0.id_is
