-- For each public call: two results that its promise allows are equal, the answer and the later content of the buffer.
use mathlib.Core.Path.{◌≡◌}
use Rattle.words.specs.LawsPromise.{determined}
use Rattle.plan.specs.LawsPlan.{planned_unique}
use Rattle.plan.proofs.planner.update.Reads as update
use Rattle.plan.proofs.planner.fresh.Reads as fresh
use Rattle.plan.proofs.planner.read_back.Reads as read_back

-- the buffer is the fourth parameter
pub update_determined : (κs : _) (a : _) (r s : _) (x y : _) → update.Post κs a r x → update.Post κs a s y → (r ≡ s) × (x.1.1.1.0.now ≡ y.1.1.1.0.now)
update_determined κs a r s x y p q = (planned_unique r s (determined p.answers q.answers), determined p.written q.written)

-- the buffer is the fourth parameter
pub fresh_determined : (κs : _) (a : _) (r s : _) (x y : _) → fresh.Post κs a r x → fresh.Post κs a s y → (r ≡ s) × (x.1.1.1.0.now ≡ y.1.1.1.0.now)
fresh_determined κs a r s x y p q = (planned_unique r s (determined p.answers q.answers), determined p.written q.written)

-- the buffer is the second parameter
pub read_back_determined : (κs : _) (a : _) (r s : _) (x y : _) → read_back.Post κs a r x → read_back.Post κs a s y → (r ≡ s) × (x.1.0.now ≡ y.1.0.now)
read_back_determined κs a r s x y p q = (planned_unique r s (determined p.answers q.answers), determined p.written q.written)
