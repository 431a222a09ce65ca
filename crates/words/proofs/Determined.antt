-- For each public call: two results that its promise allows are equal.
use mathlib.Core.Path.{◌≡◌}
use Rattle.words.specs.LawsPromise.{determined}
use Rattle.words.proofs.address.double.Reads as double
use Rattle.words.proofs.address.halve.Reads as halve
use Rattle.words.proofs.address.entry_of.Reads as entry_of
use Rattle.words.proofs.address.address_of.Reads as address_of
use Rattle.words.proofs.list.is_words.Reads as is_words

pub double_determined : (κs : _) (a : _) (r s : _) (x y : _) → double.Post κs a r x → double.Post κs a s y → r ≡ s
double_determined κs a r s x y p q = determined p q

pub halve_determined : (κs : _) (a : _) (r s : _) (x y : _) → halve.Post κs a r x → halve.Post κs a s y → r ≡ s
halve_determined κs a r s x y p q = determined p q

pub entry_of_determined : (κs : _) (a : _) (r s : _) (x y : _) → entry_of.Post κs a r x → entry_of.Post κs a s y → r ≡ s
entry_of_determined κs a r s x y p q = determined p q

pub address_of_determined : (κs : _) (a : _) (r s : _) (x y : _) → address_of.Post κs a r x → address_of.Post κs a s y → r ≡ s
address_of_determined κs a r s x y p q = determined p q

pub is_words_determined : (κs : _) (a : _) (r s : _) (x y : _) → is_words.Post κs a r x → is_words.Post κs a s y → r ≡ s
is_words_determined κs a r s x y p q = determined p q
