-- For each public call: two results that its promise allows are equal.
use mathlib.Core.Path.{◌≡◌, refl}
use Rattle.refusal.specs.LawsRefusal.{number_in_unique}
use Rattle.words.specs.LawsPromise.{determined}
use Rattle.aim.proofs.source.Aim.wanted.Reads as wanted
use Rattle.aim.proofs.source.Aim.row_differs.Reads as row_differs_lem
use Rattle.aim.proofs.source.Aim.row_rises.Reads as row_rises_lem
use Rattle.aim.proofs.source.Aim.id_differs.Reads as id_differs_lem
use Rattle.aim.proofs.source.Aim.id_rises.Reads as id_rises_lem
use Rattle.aim.proofs.source.Aim.is_written.Reads as is_written
use Rattle.aim.proofs.source.Aim.update_refusal.Reads as update_refusal
use Rattle.aim.proofs.refused.fresh_refusal.Reads as fresh_refusal

pub wanted_determined : (κs : _) (a : _) (r s : _) (x y : _) → wanted.Post κs a r x → wanted.Post κs a s y → r ≡ s
wanted_determined κs a r s x y p q = determined p q

pub row_differs_determined : (κs : _) (a : _) (r s : _) (x y : _) → row_differs_lem.Post κs a r x → row_differs_lem.Post κs a s y → r ≡ s
row_differs_determined κs a r s x y p q = determined p q

pub row_rises_determined : (κs : _) (a : _) (r s : _) (x y : _) → row_rises_lem.Post κs a r x → row_rises_lem.Post κs a s y → r ≡ s
row_rises_determined κs a r s x y p q = determined p q

pub id_differs_determined : (κs : _) (a : _) (r s : _) (x y : _) → id_differs_lem.Post κs a r x → id_differs_lem.Post κs a s y → r ≡ s
id_differs_determined κs a r s x y p q = determined p q

pub id_rises_determined : (κs : _) (a : _) (r s : _) (x y : _) → id_rises_lem.Post κs a r x → id_rises_lem.Post κs a s y → r ≡ s
id_rises_determined κs a r s x y p q = determined p q

pub is_written_determined : (κs : _) (a : _) (r s : _) (x y : _) → is_written.Post κs a r x → is_written.Post κs a s y → r ≡ s
is_written_determined κs a r s x y p q = determined p q

pub update_refusal_determined : (κs : _) (a : _) (r s : _) (x y : _) → update_refusal.Post κs a r x → update_refusal.Post κs a s y → r ≡ s
update_refusal_determined κs a r s x y p q = number_in_unique (λ x y. refl) r s (determined p q)

pub fresh_refusal_determined : (κs : _) (a : _) (r s : _) (x y : _) → fresh_refusal.Post κs a r x → fresh_refusal.Post κs a s y → r ≡ s
fresh_refusal_determined κs a r s x y p q = number_in_unique (λ x y. refl) r s (determined p q)
