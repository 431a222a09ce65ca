-- One step or none.
use mathlib.Core.Path.{sym}
use Rattle.plan.specs.LawsPlanSteps.{erasing_yes, erasing_no}
use Rattle.plan.specs.LawsPlanWrote.{wrote_same, wrote_none, room_same}
use Rattle.plan.proofs.orders.Writer.erase.Goals as goal

pub put-requires-clause-room : goal.put-requires-clause-room
put-requires-clause-room c = room_same (erasing_yes _ c.if-erase.true) c.requires

pub returns-then-erase : goal.returns-then-erase
returns-then-erase c = wrote_same (sym (erasing_yes _ c.if-erase.true)) c.put.ensures

pub returns-else-erase : goal.returns-else-erase
returns-else-erase c = wrote_same (sym (erasing_no _ c.if-erase.false)) wrote_none
