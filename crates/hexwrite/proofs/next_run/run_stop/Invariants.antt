-- The entries passed are given and in one block.
use Rattle.hexwrite.specs.LawsWriteStop.{Going}
use Rattle.hexwrite.proofs.next_run.run_stop.Given as goal

abbrev pub invariant-loop-i : goal.invariant-loop-i
invariant-loop-i l = Going l.image l.start l.end l.i
