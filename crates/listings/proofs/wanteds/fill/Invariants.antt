-- Each word passed is stored, and the rest is as it was.
use Rattle.std.proofs.Common.{◌≡◌}
use Rattle.words.specs.Lists.{overlay}
use Rattle.listings.specs.LawsLeft.{left_word}
use Rattle.listings.proofs.wanteds.fill.Given as goal

abbrev pub invariant-loop-i : goal.invariant-loop-i
invariant-loop-i l = l.words ≡ overlay 0 l.i (left_word l.aim.device l.aim.image.now l.aim.reading.now l.reading) l.initial.words
