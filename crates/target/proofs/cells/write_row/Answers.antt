-- A row that is written from its first word on.
use Rattle.std.proofs.Common.{refl, sym, length-set}
use Rattle.words.specs.LawsLists.{overlay_none}
use Rattle.target.specs.LawsCells.{write_turn}
use Rattle.target.proofs.cells.write_row.Goals as goal

pub loop-i-init : goal.loop-i-init
loop-i-init c = (refl, sym (overlay_none _ _ _))

pub loop-i-preserved : goal.loop-i-preserved
loop-i-preserved c = (rw length-set c.loop-i.invariant.0, write_turn _ _ _ _ _ _ c.loop-i-test.true c.loop-i.invariant.1)
