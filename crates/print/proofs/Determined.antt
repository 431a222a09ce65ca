-- For each public call: two results that its promise allows are equal, the answer and the later content of the buffer.
use mathlib.Core.Path.{◌≡◌}
use Rattle.print.specs.LawsPrint.{prints_determined}
use Rattle.print.proofs.refusal.Reads as refusal
use Rattle.print.proofs.sum.Reads as sum
use Rattle.print.proofs.verdict.Reads as verdict
use Rattle.print.proofs.text.Reads as text

pub refusal_determined : (κs : _) (a : _) (r s : _) (x y : _) → refusal.Post κs a r x → refusal.Post κs a s y → (r ≡ s) × (x.0.now ≡ y.0.now)
refusal_determined κs a r s x y p q = prints_determined p q

pub sum_determined : (κs : _) (a : _) (r s : _) (x y : _) → sum.Post κs a r x → sum.Post κs a s y → (r ≡ s) × (x.0.now ≡ y.0.now)
sum_determined κs a r s x y p q = prints_determined p q

pub verdict_determined : (κs : _) (a : _) (r s : _) (x y : _) → verdict.Post κs a r x → verdict.Post κs a s y → (r ≡ s) × (x.0.now ≡ y.0.now)
verdict_determined κs a r s x y p q = prints_determined p q

pub text_determined : (κs : _) (a : _) (r s : _) (x y : _) → text.Post κs a r x → text.Post κs a s y → (r ≡ s) × (x.0.now ≡ y.0.now)
text_determined κs a r s x y p q = prints_determined p q
