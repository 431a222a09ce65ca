-- Each word passed is stored, and the rest is as it was.
use Rattle.std.proofs.Common.{arith, sym, ◌∙◌}
use Rattle.table.specs.LawsLine.{below_some}
use Rattle.sheet.specs.LawsRead.{stored_none, stored_more, stored_end, stored_there}
use Rattle.sheet.proofs.body.store.Goals as goal

pub loop-i-init : goal.loop-i-init
loop-i-init c = stored_none _ _ _

pub unwrap-requires : goal.unwrap-requires
unwrap-requires c = rw (c.capital_word.ensures, stored_there _ _ c.requires.2 c.loop-i.i (omega arith) _ c.digits_at.ensures)

pub loop-i-preserved : goal.loop-i-preserved
loop-i-preserved c = stored_more _ _ _ _ _ _ _ c.loop-i.invariant c.digits_at.ensures (sym (below_some 65536 _ _ (sym c.capital_word.ensures ∙ c.unwrap.ensures)).1)

pub returns : goal.returns
returns c = stored_end _ _ _ c.requires.1 _ _ (omega arith) (omega arith) c.loop-i.invariant
