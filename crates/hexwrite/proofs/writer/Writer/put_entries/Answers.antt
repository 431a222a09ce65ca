-- Where the loop stands is one record over its variables.
use Rattle.hexwrite.specs.LawsWritePut.{turn_first, turn_room, turn_on, turn_done}
use Rattle.hexwrite.proofs.writer.Writer.put_entries.Goals as goal

pub loop-run-init : goal.loop-run-init
loop-run-init c = turn_first _ _ _ c.args.image.now.long c.requires

pub put_run-requires : goal.put_run-requires
put_run-requires c = turn_room _ _ _ _ _ _ c.loop-run.invariant _ c.in-Some.ensures

pub loop-run-preserved : goal.loop-run-preserved
loop-run-preserved c = turn_on _ _ _ _ _ _ c.loop-run.invariant _ c.in-Some.ensures _ _ c.put_run.ensures c.upper-upper.ensures

pub returns : goal.returns
returns c = turn_done _ _ _ _ _ _ c.loop-run.invariant c.in_default.ensures
