-- The head, the words, and the sum of both.
use native.Mathlib.Omega.{arith}
use Rattle.hexwrite.specs.LawsWriteRun.{data_put}
use Rattle.hexwrite.proofs.writer.Writer.put_data.Goals as goal

pub put_words-sum-requires : goal.put_words-sum-requires
put_words-sum-requires c = (c.args.run.few, omega (arith, c.put_head.ensures.puts.room))

pub put_sum-requires : goal.put_sum-requires
put_sum-requires c = omega (arith, c.put_head.ensures.puts.room, c.put_words-sum.ensures.puts.room)

pub returns : goal.returns
returns c = data_put _ _ _ c.put_head.ensures.puts c.put_words-sum.ensures.puts c.put_words-sum.ensures.sum.0 c.put_sum.ensures.puts
