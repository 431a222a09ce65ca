-- The number falls by division by ten.
use Rattle.print.proofs.parts.+put_decimal.Given as goal

abbrev pub decreases-put_decimal : goal.decreases-put_decimal
decreases-put_decimal l = l.n
