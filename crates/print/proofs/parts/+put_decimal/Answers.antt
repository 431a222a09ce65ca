-- The digits of a tenth of the number, and then its last digit.
use Rattle.std.proofs.Common.{arith}
use Rattle.print.specs.LawsPrint.{decimal_wrote_low, decimal_wrote_more, decimal_end}
use Rattle.print.proofs.parts.+put_decimal.Goals as goal

pub returns-then-n-lt10 : goal.returns-then-n-lt10
returns-then-n-lt10 t c = decimal_wrote_low _ _ _ c.if-n-lt10.true _ _ c.put_one.ensures

pub put_one-requires-2 : goal.put_one-requires-2
put_one-requires-2 t c = omega (arith, decimal_end _ _ _ _ _ c.put_decimal-last.ensures)

pub returns : goal.returns
returns t c = decimal_wrote_more _ _ _ c.if-n-lt10.false (omega arith) _ _ _ _ c.put_decimal-last.ensures c.put_one-2.ensures
