-- The lines ahead give the rest of the stream.
use Rattle.std.proofs.Common.{◌≡◌, length, rules, arith, sym, ◌∙◌}
use Rattle.trials.specs.LawsTyped.{typing_all, typing_many, typing_stop, typing_on, typing_end}
use Rattle.trials.proofs.typed.read_stream.Goals.{in_default-via-in-Some+else-steps-lt-MOST_STEPS, in_default-via-in_default}
use Rattle.trials.proofs.typed.read_stream.Goals as goal

pub loop-ahead-init : goal.loop-ahead-init
loop-ahead-init c = typing_all _ _

pub returns-in_default : goal.returns-in_default
returns-in_default c = elim c.in_default.branch [
  | in_default-via-in-Some+else-steps-lt-MOST_STEPS w ↦ typing_many _ _ _ _ _ c.loop-ahead.invariant _ _ c.cut.ensures.next w.if-steps-lt-MOST_STEPS.false
  | in_default-via-in_default w ↦ typing_stop _ _ _ _ _ c.loop-ahead.invariant _ _ c.cut.ensures.next (sym w.in_default.is ∙ c.step_of.ensures)
]

pub loop-ahead-preserved : goal.loop-ahead-preserved
loop-ahead-preserved c = typing_on _ _ _ _ _ c.loop-ahead.invariant _ _ c.cut.ensures.next c.if-steps-lt-MOST_STEPS.true _ (sym c.in-Some.is ∙ c.step_of.ensures) (search rules) _ (omega arith) _ c.copy_from_slice.ensures.after

pub returns : goal.returns
returns c =
    let none : length c.loop-ahead.ahead.now ≡ 0 = search rules in
    typing_end _ _ _ _ _ c.loop-ahead.invariant none
