-- Nothing, or its three parts, one after another.
use mathlib.Core.Path.{sym, ◌∙◌}
use native.Mathlib.Omega.{arith}
use Rattle.plan.specs.LawsPlanSteps.{config_yes, config_no}
use Rattle.plan.specs.LawsPlanWrote.{opened, left_next, left_done, room_next, room_rest, wrote_same, wrote_none}
use Rattle.plan.proofs.task.Task.put_config.Goals as goal

pub put-requires : goal.put-requires
put-requires c = record {
  fits_order = omega arith;
  room = room_next _ (opened (config_yes _ _ _ _ (sym c.some_written.ensures ∙ c.if-some_written.true))) c.requires;
}

pub erase-requires : goal.erase-requires
erase-requires c = room_next _ (left_next _ (opened (config_yes _ _ _ _ (sym c.some_written.ensures ∙ c.if-some_written.true))) c.put.ensures) c.requires

pub put_writes-requires : goal.put_writes-requires
put_writes-requires c = room_rest (left_next _ (left_next _ (opened (config_yes _ _ _ _ (sym c.some_written.ensures ∙ c.if-some_written.true))) c.put.ensures) c.erase.ensures) c.requires

pub returns-then-some_written : goal.returns-then-some_written
returns-then-some_written c =
    left_done (left_next _ (left_next _ (opened (config_yes _ _ _ _ (sym c.some_written.ensures ∙ c.if-some_written.true))) c.put.ensures) c.erase.ensures) c.put_writes.ensures

pub returns-else-some_written : goal.returns-else-some_written
returns-else-some_written c = wrote_same (sym (config_no _ _ _ _ (sym c.some_written.ensures ∙ c.if-some_written.false))) wrote_none
