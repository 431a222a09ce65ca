-- The four nibbles in their places.
use native.Mathlib.Omega.{arith}
use Rattle.judge.specs.LawsChecksum.{nibbles_of}
use Rattle.judge.proofs.checksums.join_nibbles.Goals as goal

pub returns : goal.returns
returns c = (
  nibbles_of _ _ _ _ _ _ c.nibble-first.ensures.0 c.nibble-second.ensures.0
      c.nibble-third.ensures.0 c.nibble-fourth.ensures.0,
  omega arith,
)
