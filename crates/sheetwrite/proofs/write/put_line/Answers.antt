-- The address, the words and LF, one after the other.
use Rattle.sheetwrite.specs.LawsWrite.{line_put}
use Rattle.sheetwrite.proofs.write.put_line.Goals as goal

pub returns : goal.returns
returns c = line_put _ _ _ _ _ _ _ _ _ c.put_word.ensures c.put_fields.ensures c.put.ensures
