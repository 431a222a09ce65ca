-- A refusal, a buffer that is too short, or the stream.
use native.Mathlib.Omega.{arith}
use mathlib.Core.Path.{refl, sym}
use Rattle.device.specs.LawsRecord.{rules_lem}
use Rattle.aim.specs.LawsAccepted.{accepted_fresh}
use Rattle.std.proofs.lemmas.Result.{err_from_is_err_and}
use Rattle.plan.specs.LawsPlan.{plans_refused, plans_short, plans_done}
use Rattle.plan.specs.LawsPlanSource.{fresh_source}
use Rattle.plan.specs.LawsPlanSteps.{fresh_opens}
use Rattle.plan.specs.LawsPlanCount.{fresh_counted}
use Rattle.plan.specs.LawsPlanWrote.{opened, left_next, left_done, room_next, room_rest, room_whole}
use Rattle.plan.proofs.planner.fresh.Goals as goal

pub returns-in_err-fresh_refusal : goal.returns-in_err-fresh_refusal
returns-in_err-fresh_refusal c = let p = err_from_is_err_and c.from_residual.result c.from_residual.ensures.1 in rw (p.1, p.2) (plans_refused _ _ _ _ c.in_err-fresh_refusal.ensures)

pub invariant_of-task : goal.invariant_of-task
invariant_of-task c =
    let s = accepted_fresh _ _ _ (sym c.in_ok-fresh_refusal.ensures) in
    record { rules = rules_lem _ s.device; source = fresh_source _ _ s.image_sound }

pub returns-then-out-length : goal.returns-then-out-length
returns-then-out-length c =
    plans_short _ _ _ _ c.in_ok-fresh_refusal.ensures (fresh_counted _ _ _ c.length.ensures).is c.if-out-length.true

pub put-requires-2-clause-room : goal.put-requires-2-clause-room
put-requires-2-clause-room c =
    let n = fresh_counted _ _ _ c.length.ensures in
    room_next _ (left_next _ (opened (fresh_opens _ _)) c.put.ensures) (room_whole _ _ _ refl n.is (omega arith) c.if-out-length.false)

pub put-requires-3-clause-room : goal.put-requires-3-clause-room
put-requires-3-clause-room c =
    let n = fresh_counted _ _ _ c.length.ensures in
    room_next _ (left_next _ (left_next _ (opened (fresh_opens _ _)) c.put.ensures) c.put-2.ensures) (room_whole _ _ _ refl n.is (omega arith) c.if-out-length.false)

pub put-requires-4 : goal.put-requires-4
put-requires-4 c =
    let n = fresh_counted _ _ _ c.length.ensures in
    room_rest (left_next _ (left_next _ (left_next _ (opened (fresh_opens _ _)) c.put.ensures) c.put-2.ensures) c.put-3.ensures) (room_whole _ _ _ refl n.is (omega arith) c.if-out-length.false)

pub returns : goal.returns
returns c =
    let n = fresh_counted _ _ _ c.length.ensures in
    plans_done _ _ _ _ _ _ _ c.in_ok-fresh_refusal.ensures n.is c.if-out-length.false refl refl
    (left_done (left_next _ (left_next _ (left_next _ (opened (fresh_opens _ _)) c.put.ensures) c.put-2.ensures) c.put-3.ensures) c.put-4.ensures)
    (grind arith)
