-- All characters passed can stand.
use native.Mathlib.Omega.{arith}
use Rattle.std.proofs.Common.{◌≡◌, length}
use Rattle.hexread.specs.LawsStand.{standing_more, bad_here, bad_end}
use Rattle.hexread.proofs.column.bad_column.Goals as goal

pub can_stand-requires : goal.can_stand-requires
can_stand-requires c = (omega arith, omega arith)

pub returns-then-not-can_stand : goal.returns-then-not-can_stand
returns-then-not-can_stand c = bad_here _ _ c.loop-i.invariant c.loop-i-test.true _ c.can_stand.ensures c.if-not-can_stand.true

pub loop-i-preserved : goal.loop-i-preserved
loop-i-preserved c = standing_more _ _ c.loop-i.invariant c.loop-i-test.true _ c.can_stand.ensures c.if-not-can_stand.false

pub returns : goal.returns
returns c = let e : c.loop-i.i ≡ length c.args.line.now = omega (arith, c.loop-i.invariant.within) in
    rw e at (bad_end _ _ c.loop-i.invariant c.loop-i-test.false)
