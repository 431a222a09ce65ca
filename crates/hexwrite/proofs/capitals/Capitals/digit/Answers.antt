-- The table's entry.
use Rattle.hexwrite.specs.LawsWrite.{table_capital}
use Rattle.hexwrite.proofs.capitals.Capitals.digit.Goals as goal

pub returns : goal.returns
returns c = table_capital _ _ c.args.self.now.told c.requires
