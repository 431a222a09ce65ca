-- Four digits, or none.
use Rattle.std.proofs.Common.{sym, ap, ◌∙◌}
use Rattle.words.specs.Choice.{below, pick}
use Rattle.table.specs.LawsLine.{hex_four, hex_other}
use Rattle.table.proofs.line.hex_field.Goals as goal

pub returns-then-f-eq4 : goal.returns-then-f-eq4
returns-then-f-eq4 c = c.capital_word.ensures ∙ ap (below 65536) (sym (hex_four _ c.if-f-eq4.true))

pub returns-else-f-eq4 : goal.returns-else-f-eq4
unfolding pick
returns-else-f-eq4 c = rw (hex_other _ c.if-f-eq4.false)
