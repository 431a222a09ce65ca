-- The words left to be read are left to be written.
use mathlib.Core.Path.{ap}
use native.Mathlib.Omega.{arith}
use Rattle.plan.specs.Steps.{reads}
use Rattle.plan.specs.LawsPlanSteps.{reads_next, reads_end}
use Rattle.plan.specs.LawsPlanWrote.{opened, left_same, left_next, left_done, room_next, room_rest}
use Rattle.plan.proofs.orders.Writer.reads.Goals as goal

pub loop-init : goal.loop-init
loop-init c = opened (ap reads (omega arith))

pub put-requires : goal.put-requires
put-requires c = record {
  fits_order = tt;
  room = room_next _ (left_same (reads_next _ _ c.loop-test.true) c.loop.invariant) c.requires.room;
}

pub put-requires-in-loop : goal.put-requires-in-loop
put-requires-in-loop c = record {
  fits_order = tt;
  room = room_next _ (left_next _ (left_same (reads_next _ _ c.loop-test.true) c.loop.invariant) c.put.ensures) c.requires.room;
}

pub loop-preserved : goal.loop-preserved
loop-preserved c = left_next _ (left_next _ (left_same (reads_next _ _ c.loop-test.true) c.loop.invariant) c.put.ensures) c.put-in-loop.ensures

pub put-requires-2 : goal.put-requires-2
put-requires-2 c = record {
  fits_order = tt;
  room = room_rest (left_same (reads_end _ _ (omega arith)) c.loop.invariant) c.requires.room;
}

pub returns : goal.returns
returns c = left_done (left_same (reads_end _ _ (omega arith)) c.loop.invariant) c.put-2.ensures
