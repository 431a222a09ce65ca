-- All characters passed can stand.
use Rattle.hexread.specs.LawsStand.{Standing}
use Rattle.hexread.proofs.column.bad_column.Given as goal

abbrev pub invariant-loop-i : goal.invariant-loop-i
invariant-loop-i l = Standing l.line l.i
