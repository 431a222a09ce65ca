-- Two digits.
use Rattle.numerals.specs.Hex.{byte_text}
use Rattle.hexwrite.specs.LawsWriter.{puts_then}
use Rattle.hexwrite.proofs.writer.Writer.put_byte.Goals as goal

pub returns-clause-puts : goal.returns-clause-puts
unfolding byte_text
returns-clause-puts c = puts_then (rw c.digit-high.ensures at c.put.ensures.puts) (rw c.digit-low.ensures at c.put-2.ensures.puts)
