-- The bits of the entries passed are joined.
use Rattle.std.proofs.Common.{get_or}
use Rattle.words.specs.LawsJoined.{Joined}
use Rattle.device.specs.LawsImage.{given_bits}
use Rattle.device.proofs.image.join_given.Given as goal

abbrev pub invariant-loop-entry : goal.invariant-loop-entry
invariant-loop-entry l = Joined l.entry-index (λ k. given_bits (get_or l.l k 0)) l.all
