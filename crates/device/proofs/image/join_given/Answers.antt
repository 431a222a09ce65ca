-- The bits of the entries passed are joined.
use Rattle.words.specs.LawsJoined.{joined_none, joined_more}
use Rattle.device.proofs.image.join_given.Goals as goal

pub loop-entry-init : goal.loop-entry-init
loop-entry-init c = joined_none _

pub loop-entry-preserved : goal.loop-entry-preserved
loop-entry-preserved c = joined_more _ _ _ c.loop-entry.invariant _ c.given_bits-all.ensures
