-- Its three parts, one after another.
use Rattle.plan.specs.LawsPlanSteps.{word_opens}
use Rattle.plan.specs.LawsPlanWrote.{opened, left_next, left_done, room_next, room_rest}
use Rattle.plan.proofs.orders.Writer.word.Goals as goal

pub walk-requires : goal.walk-requires
walk-requires c = room_next _ (opened (word_opens _ _ _)) c.requires.room

pub put-requires : goal.put-requires
put-requires c = record {
  fits_order = c.requires.word_bound;
  room = room_next _ (left_next _ (opened (word_opens _ _ _)) c.walk.ensures) c.requires.room;
}

pub put-requires-2 : goal.put-requires-2
put-requires-2 c = record {
  fits_order = tt;
  room = room_rest (left_next _ (left_next _ (opened (word_opens _ _ _)) c.walk.ensures) c.put.ensures) c.requires.room;
}

pub returns : goal.returns
returns c = left_done (left_next _ (left_next _ (opened (word_opens _ _ _)) c.walk.ensures) c.put.ensures) c.put-2.ensures
