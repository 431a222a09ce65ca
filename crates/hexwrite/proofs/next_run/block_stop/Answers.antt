-- The block's end, or all entries' end.
use Rattle.hexwrite.specs.LawsWriteStop.{block_ends}
use Rattle.hexwrite.proofs.next_run.block_stop.Goals as goal

pub returns : goal.returns
returns c = rw c.min.ensures (block_ends _ _ c.requires.0)
