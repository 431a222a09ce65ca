-- The files are refused, or planned for.
use Rattle.print.specs.LawsPrint.{prints_as}
use Rattle.listings.specs.LawsPlans.{given_small, given_text_is}
use Rattle.listings.proofs.plans.put_program.Goals as goal

pub put_planned-requires : goal.put_planned-requires
put_planned-requires c =
    let g = c.in-Ok.ensures in
    (g.board.served, g.board.good, given_small _ _ _ _ _ _ _ g)

pub returns-in-Ok : goal.returns-in-Ok
returns-in-Ok c = prints_as _ _ _ _ _ (given_text_is _ _ _ _ _ _ _ c.in-Ok.ensures _ _) c.put_planned.ensures

pub returns-in-Err : goal.returns-in-Err
returns-in-Err c = prints_as _ _ _ _ _ (c.in-Err.ensures.text _ _) (rw c.number.ensures at c.refusal.ensures)
