-- The words from here on are left to be counted.
use Prim.Native.Nat.{◌-◌, ◌≤◌}
use Rattle.plan.specs.LawsPlanSteps.{plan_writes}
use Rattle.plan.specs.LawsPlanCount.{Counting, writes_most}
use Rattle.plan.proofs.task.Task.writes_length.Given as goal

abbrev pub invariant-loop-k : goal.invariant-loop-k
invariant-loop-k l =
    let left = plan_writes l.self.aim.device l.self.aim.image.now l.self.aim.reading.now l.self.all_ids in
    record { behind : l.at ≤ l.k; counted : Counting writes_most (left 9 0 0) (left (9 - l.k) l.k l.at) l.steps }
