-- Two bytes, or a text that ends too soon.
use Rattle.std.proofs.Common.{arith, ◌≡◌, ◌+◌, ◌*◌, ◌∙◌, ap, Some}
use Rattle.numerals.specs.LawsHex.{no_digit_by, byte_within, word_none_high, word_none_low, word_some}
use Rattle.numerals.proofs.hex.word_by.Goals as goal

pub returns-in_err-high : goal.returns-in_err-high
returns-in_err-high g c = c.from_residual.ensures ∙ word_none_high _ _ _ c.in_err-high.ensures

pub overflow_add-at : goal.overflow_add-at
overflow_add-at g c = let h = byte_within _ _ _ (no_digit_by _) _ c.in_ok-high.ensures in omega arith

pub returns-in_err-low : goal.returns-in_err-low
returns-in_err-low g c = c.from_residual-in_err-low.ensures ∙ word_none_low _ _ _ c.in_err-low.ensures

pub returns : goal.returns
returns g c =
    let e : c.from_be_bytes.result ≡ 256 * c.in_ok-high.high + c.in_ok-low.low = omega arith in
    ap Some e ∙ word_some _ _ _ _ _ c.in_ok-high.ensures c.in_ok-low.ensures
