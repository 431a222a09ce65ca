-- The rows from here on are left to be counted.
use Prim.Native.Nat.{◌-◌, ◌*◌, ◌/◌, ◌≤◌}
use Rattle.plan.specs.LawsPlanSteps.{plan_rows}
use Rattle.plan.specs.LawsPlanCount.{Counting, rows_most}
use Rattle.plan.proofs.task.Task.rows_length.Given as goal

abbrev pub invariant-loop-k : goal.invariant-loop-k
invariant-loop-k l =
    let d = l.self.aim.device in
    let left = plan_rows d l.self.aim.image.now l.self.aim.reading.now l.self.erases in
    record { behind : l.at ≤ l.k * l.row; counted : Counting rows_most (left (d.words / d.row) 0 0) (left (d.words / d.row - l.k) l.k l.at) l.steps }
