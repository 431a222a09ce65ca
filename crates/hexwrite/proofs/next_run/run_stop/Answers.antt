-- The entries passed are given and in one block.
use native.Mathlib.Omega.{arith}
use Rattle.std.proofs.Common.{◌≡◌}
use Rattle.hexwrite.specs.LawsWriteStop.{going_first, going_on, run_gap, run_whole}
use Rattle.hexwrite.proofs.next_run.run_stop.Goals as goal

pub loop-i-init : goal.loop-i-init
loop-i-init c = going_first _ _ _ c.block_stop-end.ensures c.requires.2

pub returns-then-image-i : goal.returns-then-image-i
returns-then-image-i c = run_gap _ _ _ _ c.block_stop-end.ensures c.loop-i.invariant c.loop-i-test.true c.if-image-i.true

pub loop-i-preserved : goal.loop-i-preserved
loop-i-preserved c = going_on _ _ _ _ c.block_stop-end.ensures c.loop-i.invariant c.loop-i-test.true c.if-image-i.false

pub returns : goal.returns
returns c = let e : c.loop-i.i ≡ c.block_stop-end.result = omega (arith, c.loop-i.invariant.high) in
    rw e at (run_whole _ _ _ _ c.block_stop-end.ensures c.loop-i.invariant c.loop-i-test.false)
