-- The words left to be loaded are left to be written.
use Prim.Native.Nat.{◌+◌, ◌-◌}
use Rattle.aim.specs.Wanted.{wanted}
use Rattle.plan.specs.Steps.{loads}
use Rattle.plan.specs.LawsPlanWrote.{Left, in_hand}
use Rattle.plan.proofs.task.Task.put_loads.Given as goal

abbrev pub invariant-loop-i : goal.invariant-loop-i
invariant-loop-i l =
    let word = wanted l.self.aim.device l.self.aim.image.now l.self.aim.reading.now in
    Left (loads word l.first l.count) l.fn.w (loads word l.i (l.last + 1 - l.i)) (in_hand l.fn.w l.out l.steps)
