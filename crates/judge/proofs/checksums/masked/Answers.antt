-- An AND is at most its mask.
use lib.Bits.{and_le_r}
use native.Mathlib.Omega.{arith}
use mathlib.Core.Path.{refl}
use Rattle.judge.proofs.checksums.masked.Goals as goal

pub overflow_cast-result : goal.overflow_cast-result
overflow_cast-result c = omega (arith, and_le_r c.args.word c.args.mask)

pub returns : goal.returns
returns c = (refl, omega (arith, and_le_r c.args.word c.args.mask))
