-- What is left to walk is left to be written.
use Rattle.plan.specs.Steps.{walk}
use Rattle.plan.specs.LawsPlanWrote.{Left}
use Rattle.plan.proofs.orders.Writer.walk.Given as goal

abbrev pub invariant-loop : goal.invariant-loop
invariant-loop l = Left (walk l.from l.to) l.initial.self (walk l.counter l.to) l.self
