-- A tab, the digits, LF.
use Rattle.sheetwrite.specs.LawsWrite.{sum_put}
use Rattle.sheetwrite.proofs.write.put_sum.Goals as goal

pub returns : goal.returns
returns c = sum_put _ _ c.args.out.now _ _ _ c.put.ensures c.put_word.ensures c.put-2.ensures
