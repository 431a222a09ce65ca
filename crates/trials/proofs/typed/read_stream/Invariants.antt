-- The lines ahead give the rest of the stream.
use Rattle.std.proofs.Common.{length}
use Rattle.trials.specs.LawsTyped.{Typing}
use Rattle.trials.proofs.typed.read_stream.Given as goal

abbrev pub invariant-loop-ahead : goal.invariant-loop-ahead
invariant-loop-ahead l = Typing l.text l.initial.stream l.ahead l.steps l.stream

abbrev pub decreases-loop-ahead : goal.decreases-loop-ahead
decreases-loop-ahead l = length l.ahead
