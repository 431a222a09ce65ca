-- A word's entry, or none.
use Rattle.hexread.specs.Step.{entry_at}
use borrow.Author.Rules.{rules}
use Rattle.hexread.proofs.give.entry_at.Goals as goal

pub returns-in-Some : goal.returns-in-Some
unfolding entry_at
returns-in-Some c = search rules

pub returns-in-None : goal.returns-in-None
unfolding entry_at
returns-in-None c = search rules
