-- The bytes passed have no LF.
use Rattle.std.proofs.Common.{◌≡◌, ◌+◌, ◌*◌}
use Rattle.lines.specs.LawsScan.{Passing}
use Rattle.lines.proofs.scan.line_stop.Given as goal

abbrev pub invariant-loop-eight : goal.invariant-loop-eight
invariant-loop-eight l = (l.at ≡ l.from + 8 * l.eight-index) × Passing l.text l.from l.at
