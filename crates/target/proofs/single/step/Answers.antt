-- What no step is done on, 32 for the latches, and then the step, which leaves the registers where it is refused.
use Rattle.std.proofs.Common.{ℕ, ◌<◌, ◌≡◌, refl, sym, ap, ◌∙◌, rules, arith}
use Rattle.std.proofs.lemmas.Result.{err_from_is_err_and}
use Rattle.refusal.specs.LawsRefusal.{number_of_positive}
use Rattle.target.specs.Chip.{Chip}
use Rattle.target.specs.Model.{stops}
use Rattle.target.specs.Step.{Target, Decoded, step_effect}
use Rattle.target.specs.LawsSound.{refused_stays}
use Rattle.target.specs.LawsRun.{cells_long}
use Rattle.target.specs.LawsStep.{judged_sound, steps_judged, steps_latches, steps_on}
use Rattle.target.proofs.single.step.Goals as goal

refused_registers : (chip : Chip) (s : Decoded) (t t' : Target) (n : ℕ) → stops n t' ≡ step_effect chip s t → 0 < n → t.registers ≡ t'.registers
refused_registers chip s t t' n e h =
    let k : n ≡ (step_effect chip s t).number = ap (λ x. x.number) e in
    sym (ap (λ x. x.target.registers) (e ∙ refused_stays chip t s (λ z. omega arith)))

pub returns-in_err-sound : goal.returns-in_err-sound
returns-in_err-sound c = let p = err_from_is_err_and c.from_residual.result c.from_residual.ensures.1 in
    rw (p.1, p.2) (steps_judged _ _ _ _ _ _ _ c.in_err-sound.ensures.number (number_of_positive _))

pub invariant_of-board : goal.invariant_of-board
invariant_of-board c = let s = judged_sound _ _ (sym c.in_ok-sound.ensures.number) in
    record { long = rw c.in_ok-sound.ensures.same (cells_long _ _ s.1); room = omega arith }

pub returns-then-not-has_words : goal.returns-then-not-has_words
returns-then-not-has_words c = steps_latches _ _ _ _ _ _ (sym c.in_ok-sound.ensures.number) _ c.in_ok-sound.ensures.same (sym c.has_words.ensures ∙ c.if-not-has_words.true)

pub returns-in_err-perform : goal.returns-in_err-perform
returns-in_err-perform c = let p = err_from_is_err_and c.from_residual-in_err-perform.result c.from_residual-in_err-perform.ensures.1 in
    rw (p.1, p.2) (steps_on _ _ _ _ _ _ (sym c.in_ok-sound.ensures.number) _ c.in_ok-sound.ensures.same (sym c.has_words.ensures ∙ c.if-not-has_words.false) _ _
    c.in_err-perform.ensures.whole _ _ _ (refused_registers _ _ _ _ _ c.in_err-perform.ensures.whole (number_of_positive _)) (search rules) (search rules))

pub returns : goal.returns
returns c = steps_on _ _ _ _ _ _ (sym c.in_ok-sound.ensures.number) _ c.in_ok-sound.ensures.same (sym c.has_words.ensures ∙ c.if-not-has_words.false) _ _
    c.in_ok-perform.ensures.whole _ _ _ refl (search rules) (search rules)
