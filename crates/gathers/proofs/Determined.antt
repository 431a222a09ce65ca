-- For the public call: two results that its promise allows are equal, the answer and the later content of the text.
use mathlib.Core.Path.{◌≡◌}
use Rattle.print.specs.LawsPrint.{prints_determined}
use Rattle.gathers.proofs.gather.Reads as gather

pub gather_determined : (κs : _) (a : _) (r s : _) (x y : _) → gather.Post κs a r x → gather.Post κs a s y → (r ≡ s) × (x.1.1.1.0.now ≡ y.1.1.1.0.now)
gather_determined κs a r s x y p q = prints_determined p.0 q.0
