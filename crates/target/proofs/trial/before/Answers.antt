-- What no step is done on, and then 34.
use Rattle.std.proofs.Common.{sym}
use Rattle.std.proofs.lemmas.Result.{err_from_is_err_and}
use Rattle.refusal.specs.LawsRefusal.{number_of_positive}
use Rattle.target.specs.LawsStep.{judged_sound}
use Rattle.target.specs.LawsRun.{before_judged, before_34, before_none}
use Rattle.target.proofs.trial.before.Goals as goal

pub returns-in_err-sound-clause-number : goal.returns-in_err-sound-clause-number
returns-in_err-sound-clause-number c = let p = err_from_is_err_and c.from_residual.result c.from_residual.ensures.1 in
    rw (p.1, p.2) (before_judged _ _ _ _ c.in_err-sound.ensures.number (number_of_positive _))

pub returns-then-stream-ne0-clause-number : goal.returns-then-stream-ne0-clause-number
returns-then-stream-ne0-clause-number c = let s = judged_sound _ _ (sym c.in_ok-sound.ensures.number) in before_34 _ _ _ s.0 s.1 c.if-stream-ne0.true

pub returns-clause-number : goal.returns-clause-number
returns-clause-number c = let s = judged_sound _ _ (sym c.in_ok-sound.ensures.number) in before_none _ _ _ s.0 s.1 c.if-stream-ne0.false
