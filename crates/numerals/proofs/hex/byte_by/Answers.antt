-- Two digits, or a text that ends too soon.
use Rattle.std.proofs.Common.{arith, ◌∙◌, sym}
use Rattle.std.proofs.lemmas.Bool.{ltb-false}
use Rattle.numerals.specs.LawsHex.{no_digit_by, byte_none_past, byte_none_high, byte_none_low, byte_some, some_below}
use Rattle.numerals.proofs.hex.byte_by.Goals as goal

pub returns-in_err-get : goal.returns-in_err-get
returns-in_err-get g c = c.from_residual.ensures ∙ byte_none_past _ _ _ (no_digit_by _) (omega (arith, ltb-false _ _ (sym c.in_err-get.ensures.lookup.0)))

pub returns-in_err-high : goal.returns-in_err-high
returns-in_err-high g c = c.from_residual-in_err-high.ensures ∙ byte_none_high _ _ _ _ (c.in_ok-get.ensures.lookup.3.1 0) c.in_err-high.ensures

pub returns-in_err-get-2 : goal.returns-in_err-get-2
returns-in_err-get-2 g c = c.from_residual-in_err-get-2.ensures ∙ byte_none_past _ _ _ (no_digit_by _) (omega (arith, ltb-false _ _ (sym c.in_err-get-2.ensures.lookup.0)))

pub returns-in_err-low : goal.returns-in_err-low
returns-in_err-low g c = c.from_residual-in_err-low.ensures ∙ byte_none_low _ _ _ _ (c.in_ok-get-2.ensures.lookup.3.1 0) c.in_err-low.ensures

pub overflow_mul-result : goal.overflow_mul-result
overflow_mul-result g c = omega (arith, some_below _ _ _ c.in_ok-high.ensures)

pub overflow_add-result : goal.overflow_add-result
overflow_add-result g c = omega (arith, some_below _ _ _ c.in_ok-high.ensures, some_below _ _ _ c.in_ok-low.ensures)

pub returns : goal.returns
returns g c =
    byte_some _ _ _ _ _ _ _ (c.in_ok-get.ensures.lookup.3.1 0) (c.in_ok-get-2.ensures.lookup.3.1 0) c.in_ok-high.ensures c.in_ok-low.ensures
