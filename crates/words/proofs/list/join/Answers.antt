-- The bits of the entries passed are joined.
use Rattle.std.proofs.Common.{refl}
use Rattle.words.specs.LawsJoined.{joined_none, joined_more}
use Rattle.words.proofs.list.join.Goals as goal

pub loop-entry-init : goal.loop-entry-init
loop-entry-init c = joined_none _

pub loop-entry-preserved : goal.loop-entry-preserved
loop-entry-preserved c = joined_more _ _ _ c.loop-entry.invariant _ refl
