-- The bytes passed are stored and added up.
use Rattle.hexread.specs.LawsDecode.{Decoding}
use Rattle.hexread.proofs.digits.Digits.decode.Given as goal

abbrev pub invariant-loop-j : goal.invariant-loop-j
invariant-loop-j l = Decoding l.line l.n l.j l.sum l.bytes
