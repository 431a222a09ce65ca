-- A refusal, a buffer that is too short, or the stream.
use native.Mathlib.Omega.{arith}
use mathlib.Core.Path.{refl, sym}
use Rattle.device.specs.LawsRecord.{rules_lem}
use Rattle.aim.specs.LawsAccepted.{accepted}
use Rattle.std.proofs.lemmas.Result.{err_from_is_err_and}
use Rattle.plan.specs.LawsPlan.{plans_refused, plans_short, plans_done}
use Rattle.plan.specs.LawsPlanSource.{update_source}
use Rattle.plan.specs.LawsPlanSteps.{update_opens}
use Rattle.plan.specs.LawsPlanCount.{update_counted}
use Rattle.plan.specs.LawsPlanWrote.{opened, left_next, left_done, room_next, room_rest, room_whole}
use Rattle.plan.proofs.planner.update.Goals as goal

pub returns-in_err-update_refusal : goal.returns-in_err-update_refusal
returns-in_err-update_refusal c = let p = err_from_is_err_and c.from_residual.result c.from_residual.ensures.1 in rw (p.1, p.2) (plans_refused _ _ _ _ c.in_err-update_refusal.ensures)

pub invariant_of-task : goal.invariant_of-task
invariant_of-task c =
    let s = accepted _ _ _ (sym c.in_ok-update_refusal.ensures) in
    record { rules = rules_lem _ s.device; source = update_source _ _ _ s.image_sound s.reading_sound }

pub returns-then-out-length : goal.returns-then-out-length
returns-then-out-length c =
    plans_short _ _ _ _ c.in_ok-update_refusal.ensures (update_counted _ _ _ _ _ _ c.id_rises-rise.ensures c.id_differs-ids.ensures c.length.ensures).is c.if-out-length.true

pub put-requires : goal.put-requires
put-requires c =
    let n = update_counted _ _ _ _ _ _ c.id_rises-rise.ensures c.id_differs-ids.ensures c.length.ensures in record {
      fits_order = tt;
      room = room_next _ (opened (update_opens _ _ _ _ _ c.id_rises-rise.ensures c.id_differs-ids.ensures)) (room_whole _ _ _ refl n.is (omega arith) c.if-out-length.false);
    }

pub put-requires-2 : goal.put-requires-2
put-requires-2 c =
    let n = update_counted _ _ _ _ _ _ c.id_rises-rise.ensures c.id_differs-ids.ensures c.length.ensures in
    room_rest (left_next _ (opened (update_opens _ _ _ _ _ c.id_rises-rise.ensures c.id_differs-ids.ensures)) c.put.ensures) (room_whole _ _ _ refl n.is (omega arith) c.if-out-length.false)

pub returns : goal.returns
returns c =
    let n = update_counted _ _ _ _ _ _ c.id_rises-rise.ensures c.id_differs-ids.ensures c.length.ensures in
    plans_done _ _ _ _ _ _ _ c.in_ok-update_refusal.ensures n.is c.if-out-length.false refl refl
    (left_done (left_next _ (opened (update_opens _ _ _ _ _ c.id_rises-rise.ensures c.id_differs-ids.ensures)) c.put.ensures) c.put-2.ensures)
    (grind arith)
