-- The sum's digits, and LF.
use Rattle.hexwrite.specs.LawsWrite.{closing_text}
use Rattle.hexwrite.specs.LawsWriter.{puts_then}
use Rattle.hexwrite.proofs.writer.Writer.put_sum.Goals as goal

pub returns-clause-puts : goal.returns-clause-puts
unfolding closing_text
returns-clause-puts c = puts_then c.put_byte.ensures.puts c.put.ensures.puts
