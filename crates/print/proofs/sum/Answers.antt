-- The digits and the end of the line.
use Rattle.print.specs.LawsLines.{sum_printed}
use borrow.Author.Rules.{rules}
use Rattle.print.proofs.sum.Goals as goal

pub returns : goal.returns
returns c = search (sum_printed, rules)
