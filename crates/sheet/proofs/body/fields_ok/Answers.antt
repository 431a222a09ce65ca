-- Each field passed is sound.
use Rattle.std.proofs.Common.{sym, ◌∙◌}
use Rattle.sheet.specs.LawsRead.{fields_none, fields_more, fields_no}
use Rattle.sheet.proofs.body.fields_ok.Goals as goal

pub loop-k-init : goal.loop-k-init
loop-k-init c = fields_none _ _

pub returns-then-not-field_ok : goal.returns-then-not-field_ok
returns-then-not-field_ok c = fields_no _ _ _ _ c.loop-k-test.true (sym c.field_ok.ensures ∙ c.if-not-field_ok.true)

pub loop-k-preserved : goal.loop-k-preserved
loop-k-preserved c = fields_more _ _ _ c.loop-k.invariant (sym c.field_ok.ensures ∙ c.if-not-field_ok.false)
