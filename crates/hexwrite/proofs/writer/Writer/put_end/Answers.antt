-- A record without data.
use native.Mathlib.Omega.{arith}
use Rattle.hexwrite.specs.LawsWritePut.{end_put}
use Rattle.hexwrite.proofs.writer.Writer.put_end.Goals as goal

pub put_sum-requires : goal.put_sum-requires
put_sum-requires c = omega (arith, c.put_head.ensures.puts.room)

pub returns : goal.returns
returns c = end_put c.put_head.ensures.puts c.put_sum.ensures.puts
