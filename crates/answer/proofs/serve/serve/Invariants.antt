use Rattle.std.proofs.Common.{length, ◌≤◌}
use Rattle.answer.proofs.serve.serve.Given as goal

abbrev pub invariant-loop : goal.invariant-loop
invariant-loop g l = l.have ≤ length l.text
