-- The lines ahead still hold what is looked for.
use Rattle.std.proofs.Common.{length}
use Rattle.table.specs.LawsTable.{Ahead}
use Rattle.table.proofs.table.find_device.Given as goal

abbrev pub invariant-loop-line : goal.invariant-loop-line
invariant-loop-line l = Ahead l.text l.id l.rest

abbrev pub decreases-loop-line : goal.decreases-loop-line
decreases-loop-line l = length l.rest
