-- The name up to the next tab, and the sum after it.
use Rattle.std.proofs.Common.{sym, ◌∙◌}
use Rattle.sheet.specs.LawsFirstLine.{head_no_name, head_no_sum, head_no_end, head_new}
use Rattle.sheet.proofs.first.read_fields.Goals as goal

pub returns-then-not-is_name : goal.returns-then-not-is_name
returns-then-not-is_name c = head_no_name _ c.requires.first _ c.find-end.ensures.place (sym c.is_name.ensures ∙ c.if-not-is_name.true)

pub returns-in_err-sum : goal.returns-in_err-sum
returns-in_err-sum c = rw c.from_residual.ensures (head_no_sum _ c.requires.first _ c.find-end.ensures.place (sym c.capital_word.ensures ∙ c.in_err-sum.was))

pub returns-then-not-byte_is : goal.returns-then-not-byte_is
returns-then-not-byte_is c = head_no_end _ c.requires.first _ c.find-end.ensures.place (sym c.byte_is.ensures ∙ c.if-not-byte_is.true)

pub returns : goal.returns
returns c = head_new _ c.requires.first _ c.find-end.ensures.place (sym c.is_name.ensures ∙ c.if-not-is_name.false) _
    (sym c.capital_word.ensures ∙ c.in_ok-sum.was) (sym c.byte_is.ensures ∙ c.if-not-byte_is.false) _ c.requires.id c.requires.word
