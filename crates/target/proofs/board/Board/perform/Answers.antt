-- A step that is no order is refused.
use Rattle.std.proofs.Common.{refl}
use Rattle.std.proofs.lemmas.Result.{err_from_is_err_and}
use Rattle.target.specs.LawsStep.{step_refused, step_does}
use Rattle.target.specs.LawsHeld.{leaves}
use Rattle.target.proofs.board.Board.perform.Goals as goal

pub returns-in_err-order : goal.returns-in_err-order
returns-in_err-order c = let p = err_from_is_err_and c.from_residual.result c.from_residual.ensures.1 in
    rw (p.1, p.2) (leaves _ _ _ _ (step_refused _ _ _ _ _ c.in_err-order.ensures refl) refl refl refl)

pub returns : goal.returns
returns c = rw (step_does _ _ _ _ _ c.in_ok-order.ensures refl) c.obey.ensures
