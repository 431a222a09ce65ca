-- For each public call: two results that its promise allows are equal.
use Rattle.std.proofs.Common.{◌≡◌}
use Rattle.words.specs.LawsPromise.{determined}
use Rattle.judge.specs.LawsChecksum.{sum_unique}
use Rattle.judge.specs.LawsTold.{verdict_unique}
use Rattle.judge.proofs.checksums.checksum.Reads as checksum
use Rattle.judge.proofs.verdicts.verify.Reads as verify

pub checksum_determined : (κs : _) (a : _) (r s : _) (x y : _) → checksum.Post κs a r x → checksum.Post κs a s y → r ≡ s
checksum_determined κs a r s x y p q = sum_unique r s (determined p q)

pub verify_determined : (κs : _) (a : _) (r s : _) (x y : _) → verify.Post κs a r x → verify.Post κs a s y → r ≡ s
verify_determined κs a r s x y p q = verdict_unique r s (determined p q)
