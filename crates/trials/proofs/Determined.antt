-- For the public call: two results that its promise allows are equal, the answer and the later content of the text.
use mathlib.Core.Path.{◌≡◌}
use Rattle.print.specs.LawsPrint.{prints_determined}
use Rattle.trials.proofs.trial.Reads as trial

pub trial_determined : (κs : _) (a : _) (r s : _) (x y : _) → trial.Post κs a r x → trial.Post κs a s y → (r ≡ s) × (x.1.1.1.0.now ≡ y.1.1.1.0.now)
trial_determined κs a r s x y p q = prints_determined p.0 q.0
