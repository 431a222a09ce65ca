-- The words passed are added up.
use Rattle.std.proofs.Common.{◌≡◌, ◌*◌, ◌≤◌}
use Rattle.judge.specs.Checksum.{sum_to}
use Rattle.judge.proofs.checksums.add_words.Given as goal

abbrev pub invariant-loop-word : goal.invariant-loop-word
invariant-loop-word l = (l.sum ≡ sum_to l.word-index l.reading) × (l.sum ≤ 65535 * l.word-index)
