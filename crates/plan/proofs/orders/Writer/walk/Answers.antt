-- What is left to walk is left to be written.
use Rattle.plan.specs.LawsPlanSteps.{walk_more, walk_none}
use Rattle.plan.specs.LawsPlanWrote.{left_all, left_same, left_next, left_none, room_next}
use Rattle.plan.proofs.orders.Writer.walk.Goals as goal

pub loop-init : goal.loop-init
loop-init c = left_all

pub put-requires : goal.put-requires
put-requires c = record {
  fits_order = tt;
  room = room_next _ (left_same (walk_more _ _ c.loop-test.true) c.loop.invariant) c.requires;
}

pub loop-preserved : goal.loop-preserved
loop-preserved c = left_next _ (left_same (walk_more _ _ c.loop-test.true) c.loop.invariant) c.put.ensures

pub returns : goal.returns
returns c = left_none (left_same (walk_none _ _ c.loop-test.false) c.loop.invariant)
