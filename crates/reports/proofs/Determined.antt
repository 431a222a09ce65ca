-- For each public call: two results that its promise allows are equal, the answer and the later content of the text.
use mathlib.Core.Path.{◌≡◌}
use Rattle.print.specs.LawsPrint.{prints_determined}
use Rattle.reports.proofs.checksums.checksum.Reads as checksum
use Rattle.reports.proofs.verdicts.verify.Reads as verify
use Rattle.reports.proofs.dumps.dump.Reads as dump

pub checksum_determined : (κs : _) (a : _) (r s : _) (x y : _) → checksum.Post κs a r x → checksum.Post κs a s y → (r ≡ s) × (x.1.1.0.now ≡ y.1.1.0.now)
checksum_determined κs a r s x y p q = prints_determined p.0 q.0

pub verify_determined : (κs : _) (a : _) (r s : _) (x y : _) → verify.Post κs a r x → verify.Post κs a s y → (r ≡ s) × (x.1.1.1.0.now ≡ y.1.1.1.0.now)
verify_determined κs a r s x y p q = prints_determined p.0 q.0

pub dump_determined : (κs : _) (a : _) (r s : _) (x y : _) → dump.Post κs a r x → dump.Post κs a s y → (r ≡ s) × (x.1.1.0.now ≡ y.1.1.0.now)
dump_determined κs a r s x y p q = prints_determined p.0 q.0
