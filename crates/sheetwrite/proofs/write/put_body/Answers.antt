-- The program lines, then the last one.
use Rattle.std.proofs.Common.{arith}
use Rattle.sheet.specs.Sheet.{body_length}
use Rattle.sheetwrite.specs.LawsWrite.{body_put}
use Rattle.sheetwrite.proofs.write.put_body.Goals as goal

pub put_lines-requires : goal.put_lines-requires
unfolding body_length
put_lines-requires c = (omega arith, omega arith)

pub put_line-requires : goal.put_line-requires
unfolding body_length
put_line-requires c = omega arith

pub returns : goal.returns
returns c = body_put _ _ _ _ _ _ _ _ c.requires.2 c.split_at.ensures.front c.split_at.ensures.back c.put_lines.ensures c.put_line.ensures
