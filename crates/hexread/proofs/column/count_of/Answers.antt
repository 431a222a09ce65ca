-- Two digits, or none.
use Rattle.std.proofs.Common.{◌∙◌}
use Rattle.hexread.specs.LawsStand.{count_some, count_none}
use Rattle.hexread.proofs.column.count_of.Goals as goal

pub returns-in-Some-clause-count : goal.returns-in-Some-clause-count
returns-in-Some-clause-count c = c.from.ensures ∙ count_some _ _ c.in-Some.ensures

pub returns-in-None-clause-count : goal.returns-in-None-clause-count
returns-in-None-clause-count c = count_none _ c.in-None.ensures
