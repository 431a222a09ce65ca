-- The table as it is laid out.
use Rattle.hexwrite.specs.LawsWrite.{capitals_told}
use Rattle.hexwrite.proofs.capitals.Capitals.new.Goals as goal

pub invariant_of-result : goal.invariant_of-result
invariant_of-result c = record { told = capitals_told }
