-- Four parts, each where the one before it ends.
use native.Mathlib.Omega.{arith}
use Rattle.print.specs.LawsPrint.{number_end}
use Rattle.print.specs.LawsLines.{refused_end, refused_printed}
use Rattle.print.proofs.refusal.Goals as goal

pub put_number-third-requires : goal.put_number-third-requires
put_number-third-requires c = omega (arith, refused_end _ _ _ c.text-first.ensures, number_end _ _ _ _ _ _ c.put_number-second.ensures)

pub put_number-requires : goal.put_number-requires
put_number-requires c = omega (arith, refused_end _ _ _ c.text-first.ensures, number_end _ _ _ _ _ _ c.put_number-second.ensures, number_end _ _ _ _ _ _ c.put_number-third.ensures)

pub returns : goal.returns
returns c = refused_printed _ _ _ _ _ _ _ _ _ _ _ _ c.text-first.ensures
    (rw c.from.ensures at c.put_number-second.ensures) c.put_number-third.ensures
    c.put_number.ensures
