-- The rows from here on are left to be written.
use Prim.Native.Nat.{◌-◌, ◌/◌}
use Rattle.plan.specs.LawsPlanSteps.{plan_rows}
use Rattle.plan.specs.LawsPlanWrote.{Left}
use Rattle.plan.proofs.task.Task.put_rows.Given as goal

abbrev pub invariant-loop-k : goal.invariant-loop-k
invariant-loop-k l =
    let d = l.self.aim.device in
    let left = plan_rows d l.self.aim.image.now l.self.aim.reading.now l.self.erases in
    Left (left (d.words / d.row) 0 0) l.initial.w (left (d.words / d.row - l.k) l.k l.at) l.w
