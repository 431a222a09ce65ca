-- Each line passed is sound.
use Rattle.std.proofs.Common.{◌≡◌, true}
use Rattle.gathers.specs.LawsAnswers.{answers_to}
use Rattle.gathers.proofs.answers.each_ok.Given as goal

abbrev pub invariant-loop-k : goal.invariant-loop-k
invariant-loop-k l = answers_to l.text l.k ≡ true
