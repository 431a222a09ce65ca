-- The digits, and then the mark.
use native.Mathlib.Omega.{arith}
use Rattle.print.specs.LawsPrint.{wrote_then, decimal_end}
use Rattle.print.proofs.parts.put_number.Goals as goal

pub put_one-requires : goal.put_one-requires
put_one-requires c = omega (arith, decimal_end _ _ _ _ _ c.put_decimal-end.ensures)

pub returns : goal.returns
returns c = wrote_then _ _ _ _ _ _ _ _ c.put_decimal-end.ensures c.put_one.ensures
