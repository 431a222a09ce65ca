-- The word, then the tab.
use Rattle.std.proofs.Common.{sym, ◌∙◌}
use Rattle.sheet.specs.LawsRead.{field_no_word, field_word}
use Rattle.sheet.proofs.body.field_ok.Goals as goal

pub returns-in_default : goal.returns-in_default
returns-in_default c = field_no_word _ _ (sym c.in_default.ensures)

pub returns-then-byte_is : goal.returns-then-byte_is
returns-then-byte_is c = field_word _ _ (sym c.byte_is.ensures ∙ c.if-byte_is.true) _ (sym c.in-Some.ensures)
