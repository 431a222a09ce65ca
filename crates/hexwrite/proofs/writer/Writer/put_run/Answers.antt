-- The upper half, and then the data.
use native.Mathlib.Omega.{arith}
use Rattle.hexwrite.specs.LawsWriter.{puts_then}
use Rattle.hexwrite.proofs.writer.Writer.put_run.Goals as goal

pub put_upper-requires : goal.put_upper-requires
put_upper-requires c = rw c.upper.ensures (omega arith)

pub put_data-requires : goal.put_data-requires
put_data-requires c =
    let p = rw c.upper.ensures at c.put_upper.ensures in omega (arith, p.room, p.wrote.end)

pub returns : goal.returns
returns c = puts_then (rw c.upper.ensures at c.put_upper.ensures) c.put_data.ensures
