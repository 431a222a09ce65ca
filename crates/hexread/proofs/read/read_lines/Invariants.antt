-- The lines ahead give the rest.
use Prim.Native.Nat.{◌-◌, ◌+◌}
use lib.ListN.{length}
use Rattle.std.proofs.Common.{◌≡◌}
use Rattle.hexread.specs.LawsReader.{Ahead}
use Rattle.hexread.proofs.read.read_lines.Given as goal

abbrev pub invariant-loop-at : goal.invariant-loop-at
invariant-loop-at l = (l.reader.words ≡ l.words) × Ahead l.words l.text l.initial.image l.at (l.number + 1) l.reader.ended l.reader.upper l.image

abbrev pub decreases-loop-at : goal.decreases-loop-at
decreases-loop-at l = length l.text + 1 - l.at
