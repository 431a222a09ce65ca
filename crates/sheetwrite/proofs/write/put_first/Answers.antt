-- The ID, the name and the sum, one after the other.
use Rattle.sheetwrite.specs.LawsWrite.{first_put}
use Rattle.sheetwrite.proofs.write.put_first.Goals as goal

pub returns : goal.returns
returns c = first_put _ _ _ _ _ _ _ _ c.put_word.ensures c.put.ensures c.put_name.ensures c.put_sum.ensures
