use Rattle.std.proofs.Common.{◌≤◌, length, rules, arith}
use Rattle.marks.specs.LawsMarks.{slice_min, passed_more, passed_here, searched}
use Rattle.marks.proofs.find.Goals as goal

pub returns-then-text-at-clause-place : goal.returns-then-text-at-clause-place
returns-then-text-at-clause-place c =
    let long : c.min-end.result ≤ length c.args.text.now = omega arith in
    let p = c.loop-at.invariant (omega arith) in
    let here = passed_here _ _ _ _ long _ p c.loop-at-test.true c.if-text-at.true in
    rw (slice_min c.args.from c.args.to c.min-end.result c.args.text.now (search rules)) at here

pub loop-at-preserved : goal.loop-at-preserved
loop-at-preserved c h =
    let long : c.min-end.result ≤ length c.args.text.now = omega arith in
    passed_more _ _ _ _ long _ (c.loop-at.invariant h) c.loop-at-test.true c.if-text-at.false

pub returns-clause-place : goal.returns-clause-place
returns-clause-place c = searched _ _ _ _ _ _ _ c.min-end.ensures c.loop-at.invariant c.loop-at.auto.at-end c.loop-at-test.false c.max.ensures
