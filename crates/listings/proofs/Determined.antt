-- For each public call: two results that its promise allows are equal, the answer and the later content of the text.
use mathlib.Core.Path.{◌≡◌}
use Rattle.print.specs.LawsPrint.{prints_determined}
use Rattle.listings.proofs.readbacks.readback.Reads as readback
use Rattle.listings.proofs.plans.update.Reads as update
use Rattle.listings.proofs.plans.fresh.Reads as fresh
use Rattle.listings.proofs.plans.wanted.Reads as wanted
use Rattle.listings.proofs.plans.wanted_fresh.Reads as wanted_fresh

pub readback_determined : (κs : _) (a : _) (r s : _) (x y : _) → readback.Post κs a r x → readback.Post κs a s y → (r ≡ s) × (x.1.1.0.now ≡ y.1.1.0.now)
readback_determined κs a r s x y p q = prints_determined p.0 q.0

pub update_determined : (κs : _) (a : _) (r s : _) (x y : _) → update.Post κs a r x → update.Post κs a s y → (r ≡ s) × (x.1.1.1.0.now ≡ y.1.1.1.0.now)
update_determined κs a r s x y p q = prints_determined p.0 q.0

pub fresh_determined : (κs : _) (a : _) (r s : _) (x y : _) → fresh.Post κs a r x → fresh.Post κs a s y → (r ≡ s) × (x.1.1.1.0.now ≡ y.1.1.1.0.now)
fresh_determined κs a r s x y p q = prints_determined p.0 q.0

pub wanted_determined : (κs : _) (a : _) (r s : _) (x y : _) → wanted.Post κs a r x → wanted.Post κs a s y → (r ≡ s) × (x.1.1.1.0.now ≡ y.1.1.1.0.now)
wanted_determined κs a r s x y p q = prints_determined p.0 q.0

pub wanted_fresh_determined : (κs : _) (a : _) (r s : _) (x y : _) → wanted_fresh.Post κs a r x → wanted_fresh.Post κs a s y → (r ≡ s) × (x.1.1.1.0.now ≡ y.1.1.1.0.now)
wanted_fresh_determined κs a r s x y p q = prints_determined p.0 q.0
