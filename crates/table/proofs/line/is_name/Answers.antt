-- The length, and then each character.
use Rattle.std.proofs.Common.{arith, ◌∙◌}
use Rattle.table.specs.LawsLine.{name_other, name_of}
use Rattle.table.proofs.line.is_name.Goals as goal

pub returns-in-1-to-16 : goal.returns-in-1-to-16
returns-in-1-to-16 c = c.all_printable.ensures ∙ name_of _ (omega arith) (omega arith)

pub returns-in_default : goal.returns-in_default
returns-in_default c = name_other _ (λ p. omega arith)

pub returns-in_default-2 : goal.returns-in_default-2
returns-in_default-2 c = name_other _ (λ p. omega arith)
