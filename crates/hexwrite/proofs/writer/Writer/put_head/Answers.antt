-- A colon and four bytes, one after the other.
use Rattle.numerals.specs.Hex.{byte_text}
use Rattle.hexwrite.specs.Writer.{digits_of}
use Rattle.hexwrite.specs.LawsWrite.{head_text}
use Rattle.hexwrite.specs.LawsWriter.{puts_then}
use Rattle.hexwrite.proofs.writer.Writer.put_head.Goals as goal

pub returns-clause-puts : goal.returns-clause-puts
unfolding head_text digits_of byte_text
returns-clause-puts c = puts_then c.put.ensures.puts
    (puts_then c.put_byte.ensures.puts (puts_then c.put_byte-2.ensures.puts (puts_then c.put_byte-3.ensures.puts c.put_byte-4.ensures.puts)))
