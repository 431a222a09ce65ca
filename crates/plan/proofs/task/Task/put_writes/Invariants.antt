-- The words from here on are left to be written.
use Prim.Native.Nat.{◌-◌}
use Rattle.plan.specs.LawsPlanSteps.{plan_writes}
use Rattle.plan.specs.LawsPlanWrote.{Left}
use Rattle.plan.proofs.task.Task.put_writes.Given as goal

abbrev pub invariant-loop-k : goal.invariant-loop-k
invariant-loop-k l =
    let left = plan_writes l.self.aim.device l.self.aim.image.now l.self.aim.reading.now l.self.all_ids in
    Left (left 9 0 0) l.initial.w (left (9 - l.k) l.k l.at) l.w
