-- Each word passed is stored, and the rest is as it was.
use Rattle.std.proofs.Common.{sym, arith}
use Rattle.words.specs.LawsLists.{overlay_none}
use Rattle.listings.specs.LawsLeft.{fill_more, fill_done}
use Rattle.listings.proofs.wanteds.fill.Goals as goal

pub loop-i-init : goal.loop-i-init
loop-i-init c = sym (overlay_none 0 _ _)

pub loop-i-preserved : goal.loop-i-preserved
loop-i-preserved c = fill_more _ _ _ _ _ c.loop-i.invariant c.left_word.ensures

pub returns : goal.returns
returns c = fill_done _ _ _ _ _ _ _ c.requires (omega arith) c.loop-i.invariant
