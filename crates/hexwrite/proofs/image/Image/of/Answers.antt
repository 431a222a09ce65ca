-- The record's refusal, or the image's.
use Rattle.std.proofs.Common.{◌+◌, refl, sym, ap, ◌∙◌}
use Rattle.std.proofs.lemmas.Result.{err_from_is_err_and}
use Rattle.device.specs.Memory.{reading_tail}
use Rattle.device.specs.LawsRecord.{ok_of_judged}
use Rattle.device.specs.LawsMemory.{image_long}
use Rattle.hexwrite.specs.LawsAnswer.{answer_bad, answer_20}
use Rattle.hexwrite.proofs.image.Image.of.Goals as goal

pub returns-in_err-sound : goal.returns-in_err-sound
returns-in_err-sound c = let p = err_from_is_err_and c.from_residual.result c.from_residual.ensures.1 in
    rw (p.1, p.2) (λ out. answer_bad _ _ out _ c.in_err-sound.ensures.judged)

pub returns-then-not-is_image : goal.returns-then-not-is_image
returns-then-not-is_image c = λ out. answer_20 _ _ out (ok_of_judged _ (sym c.in_ok-sound.ensures.judged)) (sym c.is_image.ensures ∙ c.if-not-is_image.true)

pub invariant_of-result : goal.invariant_of-result
invariant_of-result c = record {
  few = c.in_ok-sound.sound.rules.most;
  long = image_long _ _ (sym c.is_image.ensures ∙ c.if-not-is_image.false) ∙ ap (λ d. d.words + reading_tail) (sym c.in_ok-sound.ensures.same);
}

pub returns : goal.returns
returns c = (
  ok_of_judged _ (sym c.in_ok-sound.ensures.judged),
  sym c.is_image.ensures ∙ c.if-not-is_image.false,
  ap (λ d. d.words) c.in_ok-sound.ensures.same,
  refl,
)
