-- The record first, and then the cells.
use Rattle.std.proofs.Common.{sym, ◌∙◌}
use Rattle.std.proofs.lemmas.Result.{err_from_is_err_and}
use Rattle.refusal.specs.LawsRefusal.{number_of_positive}
use Rattle.device.specs.LawsRecord.{ok_of_judged}
use Rattle.target.specs.Step.{sound_cells}
use Rattle.target.specs.LawsStep.{judged_record, judged_32, judged_good}
use Rattle.target.proofs.sound.judge.Goals as goal

pub returns-in_err-sound-clause-number : goal.returns-in_err-sound-clause-number
returns-in_err-sound-clause-number c = let p = err_from_is_err_and c.from_residual.result c.from_residual.ensures.1 in
    rw (p.1, p.2) (judged_record _ _ _ c.in_err-sound.ensures.judged (number_of_positive _))

pub returns-then-not-is_words-clause-number : goal.returns-then-not-is_words-clause-number
unfolding sound_cells
returns-then-not-is_words-clause-number c = judged_32 _ _ (ok_of_judged _ (sym c.in_ok-sound.ensures.judged)) (rw (← c.from.ensures) (sym c.is_words.ensures ∙ c.if-not-is_words.true))

pub returns-clause-number : goal.returns-clause-number
unfolding sound_cells
returns-clause-number c = judged_good _ _ (ok_of_judged _ (sym c.in_ok-sound.ensures.judged)) (rw (← c.from.ensures) (sym c.is_words.ensures ∙ c.if-not-is_words.false))
