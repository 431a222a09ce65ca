-- Its four parts, one after another.
use Rattle.plan.specs.LawsPlanSteps.{row_opens}
use Rattle.plan.specs.LawsPlanWrote.{opened, left_next, left_done, room_next, room_rest}
use Rattle.plan.proofs.task.Task.put_row.Goals as goal

pub walk-requires : goal.walk-requires
walk-requires c = room_next _ (opened (row_opens c.args.self.now.aim.device _ _ _ _)) c.requires.room

pub erase-requires : goal.erase-requires
erase-requires c = room_next _ (left_next _ (opened (row_opens c.args.self.now.aim.device _ _ _ _)) c.walk.ensures) c.requires.room

pub put_loads-requires : goal.put_loads-requires
put_loads-requires c = record {
  count_nonzero = c.requires.row_nonzero;
  room = room_next _ (left_next _ (left_next _ (opened (row_opens c.args.self.now.aim.device _ _ _ _)) c.walk.ensures) c.erase.ensures) c.requires.room;
}

pub put-requires : goal.put-requires
put-requires c = record {
  fits_order = tt;
  room = room_rest (left_next _ (left_next _ (left_next _ (opened (row_opens c.args.self.now.aim.device _ _ _ _)) c.walk.ensures) c.erase.ensures) c.put_loads.ensures) c.requires.room;
}

pub returns : goal.returns
returns c =
    left_done (left_next _ (left_next _ (left_next _ (opened (row_opens c.args.self.now.aim.device _ _ _ _)) c.walk.ensures) c.erase.ensures) c.put_loads.ensures) c.put.ensures
