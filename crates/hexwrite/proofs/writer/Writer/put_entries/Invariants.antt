-- Where the loop stands is one record over its variables.
use Prim.Native.Nat.{◌-◌}
use lib.ListN.{length}
use Rattle.hexwrite.specs.LawsWritePut.{Turn}
use Rattle.hexwrite.proofs.writer.Writer.put_entries.Given as goal

abbrev pub invariant-loop-run : goal.invariant-loop-run
invariant-loop-run l = Turn l.image.words l.image.entries.now l.initial.self l.self l.upper l.at

abbrev pub decreases-loop-run : goal.decreases-loop-run
decreases-loop-run l = length l.image.entries.now - l.at
