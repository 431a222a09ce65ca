-- The record is put only where the upper half changes.
use native.Mathlib.Omega.{arith}
use Rattle.hexwrite.specs.LawsWriteRun.{upper_kept, upper_put, length_new}
use Rattle.hexwrite.proofs.writer.Writer.put_upper.Goals as goal

pub returns-then-next-upper : goal.returns-then-next-upper
returns-then-next-upper c = upper_kept _ _ _ c.if-next-upper.true

pub put_head-requires : goal.put_head-requires
put_head-requires c = omega (arith, length_new _ _ c.if-next-upper.false)

pub put_byte-requires : goal.put_byte-requires
put_byte-requires c = omega (arith, length_new _ _ c.if-next-upper.false, c.put_head.ensures.puts.room)

pub put_byte-requires-2 : goal.put_byte-requires-2
put_byte-requires-2 c = omega (arith, length_new _ _ c.if-next-upper.false, c.put_head.ensures.puts.room, c.put_byte.ensures.puts.room)

pub put_sum-requires : goal.put_sum-requires
put_sum-requires c = omega (
  arith,
  length_new _ _ c.if-next-upper.false,
  c.put_head.ensures.puts.room,
  c.put_byte.ensures.puts.room,
  c.put_byte-2.ensures.puts.room,
)

pub returns : goal.returns
returns c = upper_put _ _ c.if-next-upper.false c.put_head.ensures.puts c.put_byte.ensures.puts c.put_byte-2.ensures.puts c.put_sum.ensures.puts
