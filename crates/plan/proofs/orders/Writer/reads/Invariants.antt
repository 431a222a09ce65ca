-- The words left to be read are left to be written.
use Prim.Native.Nat.{◌+◌, ◌-◌}
use Rattle.plan.specs.Steps.{reads}
use Rattle.plan.specs.LawsPlanWrote.{Left}
use Rattle.plan.proofs.orders.Writer.reads.Given as goal

abbrev pub invariant-loop : goal.invariant-loop
invariant-loop l = Left (reads l.count) l.initial.self (reads (l.count + 1 - l.counter)) l.self
