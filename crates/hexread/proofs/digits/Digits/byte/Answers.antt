-- One test for both digits.
use native.Mathlib.Omega.{arith}
use Rattle.hexread.specs.LawsDecode.{both_low, byte_or, byte_no_or}
use Rattle.hexread.proofs.digits.Digits.byte.Goals as goal

pub returns-then-high-low-ge16 : goal.returns-then-high-low-ge16
returns-then-high-low-ge16 c = rw (← c.value-high.ensures, ← c.value-low.ensures) (byte_no_or _ _ c.if-high-low-ge16.true)

pub overflow_mul-result : goal.overflow_mul-result
overflow_mul-result c = let b = both_low c.value-high.result c.value-low.result c.if-high-low-ge16.false in omega (arith, b.0, b.1)

pub overflow_add-result : goal.overflow_add-result
overflow_add-result c = let b = both_low c.value-high.result c.value-low.result c.if-high-low-ge16.false in omega (arith, b.0, b.1)

pub returns : goal.returns
returns c = rw (← c.value-high.ensures, ← c.value-low.ensures) (byte_or _ _ c.if-high-low-ge16.false)
