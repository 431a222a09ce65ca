-- A tab and a word in each turn; what is left to write gets shorter.
use Rattle.std.proofs.Common.{sym, ◌∙◌, zero-add}
use Rattle.sheetwrite.specs.LawsWrite.{fields_all, fields_turn, fields_done}
use Rattle.sheetwrite.proofs.write.put_fields.Goals as goal

pub loop-k-init : goal.loop-k-init
loop-k-init c = fields_all _ _ _ _ _

pub loop-k-preserved : goal.loop-k-preserved
loop-k-preserved c = c.loop-k.invariant ∙ fields_turn _ 0 _ _ c.loop-k-test.true _ _ _ _ c.put.ensures (rw (zero-add c.loop-k.k) c.put_word.ensures)

pub returns : goal.returns
returns c = sym (c.loop-k.invariant ∙ fields_done _ 0 _ _ _ _ c.loop-k-test.false)
