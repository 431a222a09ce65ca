-- What stops a run before its first step, and then its steps.
use Rattle.std.proofs.Common.{sym, arith, rules}
use Rattle.refusal.specs.LawsRefusal.{number_of_positive}
use Rattle.target.specs.Effects.{blank}
use Rattle.target.specs.Run.{entered}
use Rattle.target.specs.LawsRun.{cells_long, run_refused, run_goes_on, before_sound}
use Rattle.target.proofs.trial.run.Goals as goal

pub returns-in-Err : goal.returns-in-Err
returns-in-Err c = run_refused _ _ _ _ _ _ c.in-Err.ensures.number (λ z. omega (arith, number_of_positive c.in-Err.refusal))

pub invariant_of-board : goal.invariant_of-board
invariant_of-board c = let s = before_sound _ _ _ (sym c.in-Ok.ensures.number) in
    record { long = rw c.in-Ok.ensures.same (cells_long _ _ s.1); room = omega arith }

pub returns : goal.returns
unfolding entered blank
returns c = run_goes_on _ _ _ _ _ c.in-Ok.ensures.number _ c.in-Ok.ensures.same _ (omega arith) _ _ c.go.ensures.goes _ _ (search rules) (search rules)
