-- A refusal, a buffer that is too short, or the stream.
use native.Mathlib.Omega.{arith}
use mathlib.Core.Path.{refl, ◌∙◌}
use Rattle.std.proofs.lemmas.Result.{err_from_is_err_and}
use Rattle.plan.specs.LawsPlan.{plans_refused, plans_short, plans_done, read_back_judged, rules_judged}
use Rattle.plan.specs.LawsPlanBounds.{some_words}
use Rattle.plan.specs.LawsPlanSteps.{read_back_opens}
use Rattle.plan.specs.LawsPlanCount.{read_back_counted}
use Rattle.plan.specs.LawsPlanWrote.{opened, left_next, left_done, room_next, room_rest, room_whole}
use Rattle.plan.proofs.planner.read_back.Goals as goal

pub returns-in_err-judge : goal.returns-in_err-judge
returns-in_err-judge c = let p = err_from_is_err_and c.from_residual.result c.from_residual.ensures.1 in rw (p.1, p.2) (plans_refused _ _ _ _ (c.in_err-judge.ensures ∙ read_back_judged _))

pub returns-then-out-d : goal.returns-then-out-d
returns-then-out-d c =
    let n = read_back_counted c.args.d (rules_judged _ c.in_ok-judge.ensures) in
    plans_short _ _ _ _ (c.in_ok-judge.ensures ∙ read_back_judged _) n.is c.if-out-d.true

pub reads-requires : goal.reads-requires
reads-requires c =
    let n = read_back_counted c.args.d (rules_judged _ c.in_ok-judge.ensures) in record {
      count_nonzero = some_words _ (rules_judged _ c.in_ok-judge.ensures);
      room = room_next _ (left_next _ (opened (read_back_opens _)) c.put.ensures) (room_whole _ _ _ refl n.is (omega arith) c.if-out-d.false);
    }

pub put-requires-2-clause-room : goal.put-requires-2-clause-room
put-requires-2-clause-room c =
    let n = read_back_counted c.args.d (rules_judged _ c.in_ok-judge.ensures) in
    room_next _ (left_next _ (left_next _ (opened (read_back_opens _)) c.put.ensures) c.reads.ensures) (room_whole _ _ _ refl n.is (omega arith) c.if-out-d.false)

pub reads-requires-2-clause-room : goal.reads-requires-2-clause-room
reads-requires-2-clause-room c =
    let n = read_back_counted c.args.d (rules_judged _ c.in_ok-judge.ensures) in
    room_rest (left_next _ (left_next _ (left_next _ (opened (read_back_opens _)) c.put.ensures) c.reads.ensures) c.put-2.ensures) (room_whole _ _ _ refl n.is (omega arith) c.if-out-d.false)

pub returns : goal.returns
returns c =
    let n = read_back_counted c.args.d (rules_judged _ c.in_ok-judge.ensures) in
    plans_done _ _ _ _ _ _ _ (c.in_ok-judge.ensures ∙ read_back_judged _) n.is c.if-out-d.false refl refl
    (left_done (left_next _ (left_next _ (left_next _ (opened (read_back_opens _)) c.put.ensures) c.reads.ensures) c.put-2.ensures) c.reads-2.ensures)
    (grind arith)
