-- What is left to read, digit by digit.
use Rattle.std.proofs.Common.{arith, refl, sym, ◌∙◌}
use Rattle.std.proofs.lemmas.Bool.Decides.{nat_tests}
use Rattle.numerals.specs.LawsHex.{below_no, below_is}
use Rattle.numerals.specs.LawsDecimal.{left_end, left_on, left_none, left_over}
use Rattle.numerals.proofs.decimal.read_digits.Goals as goal

pub loop-c-init : goal.loop-c-init
loop-c-init c = (omega arith, refl)

pub returns-then-not-is_ascii_digit : goal.returns-then-not-is_ascii_digit
returns-then-not-is_ascii_digit c = below_no _ _ (c.loop-c.invariant.1 ∙ left_none _ _ _ _ c.loop-c-test.true (grind (arith, nat_tests)))

pub returns-then-from-value : goal.returns-then-from-value
returns-then-from-value c = below_no _ _ (c.loop-c.invariant.1 ∙ left_over _ _ _ _ c.loop-c-test.true (omega arith))

pub loop-c-preserved : goal.loop-c-preserved
loop-c-preserved c = (omega arith, c.loop-c.invariant.1 ∙ left_on _ _ _ _ _ c.loop-c-test.true (grind (arith, nat_tests)) (grind (arith, nat_tests)) (omega arith))

pub returns : goal.returns
returns c = below_is _ _ _ (sym (c.loop-c.invariant.1 ∙ left_end _ _ _ _ c.loop-c-test.false c.loop-c.invariant.0)) (omega arith)
