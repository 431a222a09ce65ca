-- Three parts for 40, and one for any other number.
use native.Mathlib.Omega.{arith}
use Rattle.print.specs.LawsPrint.{number_end, hex_end}
use Rattle.print.specs.LawsLines.{verdict_40, verdict_alone}
use Rattle.print.proofs.verdict.Goals as goal

pub put_hex-second-requires : goal.put_hex-second-requires
put_hex-second-requires c = omega (arith, number_end _ _ _ _ _ _ c.put_number-first.ensures)

pub put_number-requires : goal.put_number-requires
put_number-requires c = omega (
  arith,
  number_end _ _ _ _ _ _ c.put_number-first.ensures,
  hex_end _ _ _ _ _ _
      c.put_hex-second.ensures,
)

pub returns-then-number-eq40 : goal.returns-then-number-eq40
returns-then-number-eq40 c = verdict_40 _ _ _ c.if-number-eq40.true _ _ _ _ _ _ _
    c.put_number-first.ensures
    c.put_hex-second.ensures c.put_number.ensures

pub returns : goal.returns
returns c = verdict_alone _ _ _ c.if-number-eq40.false _ _ _ (rw c.from.ensures at c.put_number-2.ensures)
