-- The search ends where the line does.
use Rattle.std.proofs.Common.{arith}
use Rattle.lines.specs.LawsScan.{passing_eight, stop_found}
use Rattle.lines.proofs.scan.line_stop.Goals as goal

pub loop-eight-preserved : goal.loop-eight-preserved
loop-eight-preserved c = (
  omega arith,
  passing_eight _ _ _ c.loop-eight.invariant.1 _ _ c.loop-eight.invariant.0 c.loop-eight-test.true
      c.as_chunks.ensures.front c.as_chunks.ensures.front_len c.if-contains.ensures.cases,
)

pub returns : goal.returns
returns c = let p = c.loop-eight.invariant.1 in (stop_found _ _ _ p _ c.find.ensures.place, c.find.ensures.within p.within)
