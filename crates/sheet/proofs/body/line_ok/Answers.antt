-- The address, the words, LF.
use Rattle.std.proofs.Common.{arith, sym, ◌∙◌}
use Rattle.sheet.specs.LawsRead.{address_no, address_is, line_no_address, line_end}
use Rattle.sheet.proofs.body.line_ok.Goals as goal

pub returns-then-ne : goal.returns-then-ne
returns-then-ne c = line_no_address _ _ _ _ (address_no _ _ _ c.capital_word.ensures (omega arith) c.if-ne.ensures)

pub returns-then-fields_ok : goal.returns-then-fields_ok
returns-then-fields_ok c = c.byte_is.ensures ∙ line_end _ _ _ _ (address_is _ _ _ c.capital_word.ensures c.if-ne.ensures) (sym c.fields_ok.ensures ∙ c.if-fields_ok.true)
