-- The entry, or none.
use Rattle.words.specs.Choice.{pick}
use Rattle.std.proofs.Common.{sym, ◌∙◌}
use Rattle.hexread.proofs.give.Places.programmable_entry.Goals as goal

pub returns-then-programmable : goal.returns-then-programmable
unfolding pick
returns-then-programmable c = rw (← c.entry-entry.ensures, sym c.programmable.ensures ∙ c.if-programmable.true)

pub returns-else-programmable : goal.returns-else-programmable
unfolding pick
returns-else-programmable c = rw (← c.entry-entry.ensures, sym c.programmable.ensures ∙ c.if-programmable.false)
