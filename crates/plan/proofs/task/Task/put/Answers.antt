-- Its two parts, one after the other.
use Rattle.plan.specs.LawsPlanSteps.{body_opens}
use Rattle.plan.specs.LawsPlanWrote.{opened, left_next, left_done, room_next, room_rest}
use Rattle.plan.proofs.task.Task.put.Goals as goal

pub put_rows-requires : goal.put_rows-requires
put_rows-requires c = room_next _ (opened (body_opens _ _ _ _ _ _)) c.requires

pub put_config-requires : goal.put_config-requires
put_config-requires c = room_rest (left_next _ (opened (body_opens _ _ _ _ _ _)) c.put_rows.ensures) c.requires

pub returns : goal.returns
returns c = left_done (left_next _ (opened (body_opens _ _ _ _ _ _)) c.put_rows.ensures) c.put_config.ensures
