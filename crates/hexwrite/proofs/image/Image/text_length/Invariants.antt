-- What is counted and what is left make the whole.
use Prim.Native.Nat.{◌-◌}
use lib.ListN.{length}
use Rattle.hexwrite.specs.LawsWriteText.{Counted}
use Rattle.hexwrite.proofs.image.Image.text_length.Given as goal

abbrev pub invariant-loop-run : goal.invariant-loop-run
invariant-loop-run l = Counted l.self.words l.self.entries.now l.total l.upper l.at

abbrev pub decreases-loop-run : goal.decreases-loop-run
decreases-loop-run l = length l.self.entries.now - l.at
