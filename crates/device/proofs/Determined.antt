-- For each public call: two results that its promise allows are equal.
use Rattle.std.specs.Prelude.{◌≡◌, Ok}
use Rattle.refusal.specs.Refusal.{number_in}
use Rattle.std.proofs.Common.{sym, ◌∙◌, refl}
use Rattle.refusal.specs.LawsRefusal.{number_in_unique}
use Rattle.words.specs.LawsPromise.{determined}
use Rattle.device.proofs.record.judge.Reads as judge
use Rattle.device.proofs.record.fits.Reads as fits
use Rattle.device.proofs.sound.Sound.of.Reads as sound_of
use Rattle.device.proofs.memory.programmable.Reads as programmable
use Rattle.device.proofs.memory.under_mask.Reads as under_mask
use Rattle.device.proofs.memory.is_reading.Reads as is_reading
use Rattle.device.proofs.image.is_image.Reads as is_image
use Rattle.device.proofs.memory.is_protected.Reads as is_protected

pub judge_determined : (κs : _) (a : _) (r s : _) (x y : _) → judge.Post κs a r x → judge.Post κs a s y → r ≡ s
judge_determined κs a r s x y p q = number_in_unique (λ u v. refl) r s (p ∙ sym q)

pub fits_determined : (κs : _) (a : _) (r s : _) (x y : _) → fits.Post κs a r x → fits.Post κs a s y → r ≡ s
fits_determined κs a r s x y p q = determined p q

pub programmable_determined : (κs : _) (a : _) (r s : _) (x y : _) → programmable.Post κs a r x → programmable.Post κs a s y → r ≡ s
programmable_determined κs a r s x y p q = determined p q

pub under_mask_determined : (κs : _) (a : _) (r s : _) (x y : _) → under_mask.Post κs a r x → under_mask.Post κs a s y → r ≡ s
under_mask_determined κs a r s x y p q = determined p q

pub is_reading_determined : (κs : _) (a : _) (r s : _) (x y : _) → is_reading.Post κs a r x → is_reading.Post κs a s y → r ≡ s
is_reading_determined κs a r s x y p q = determined p q

pub is_image_determined : (κs : _) (a : _) (r s : _) (x y : _) → is_image.Post κs a r x → is_image.Post κs a s y → r ≡ s
is_image_determined κs a r s x y p q = determined p q

pub is_protected_determined : (κs : _) (a : _) (r s : _) (x y : _) → is_protected.Post κs a r x → is_protected.Post κs a s y → r ≡ s
is_protected_determined κs a r s x y p q = determined p q

-- of a record it holds no more than the record itself, and that it keeps the rules
pub sound_of_determined : (κs : _) (a : _) (r s : _) (x y : _) → sound_of.Post κs a r x → sound_of.Post κs a s y → number_in r ≡ number_in s × ((u v : _) → r ≡ Ok u → s ≡ Ok v → u.device ≡ v.device)
sound_of_determined κs a r s x y p q = (p.0 ∙ sym q.0, λ u v e f. (rw e at p.1) ∙ sym (rw f at q.1))
