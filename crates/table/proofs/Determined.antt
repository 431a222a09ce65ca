-- For each public call: two results that its promise allows are equal.
use Rattle.std.proofs.Common.{◌≡◌, refl, sym, ◌∙◌}
use Rattle.words.specs.LawsPromise.{determined}
use Rattle.refusal.specs.LawsRefusal.{number_in_unique}
use Rattle.table.specs.LawsTable.{found_told_unique}
use Rattle.table.proofs.Found.name.Reads as name
use Rattle.table.proofs.line.is_name.Reads as is_name
use Rattle.table.proofs.table.judge_table.Reads as judge_table
use Rattle.table.proofs.table.find_device.Reads as find_device

pub name_determined : (κs : _) (a : _) (r s : _) (x y : _) → name.Post κs a r x → name.Post κs a s y → r.now ≡ s.now
name_determined κs a r s x y p q = determined p q

pub is_name_determined : (κs : _) (a : _) (r s : _) (x y : _) → is_name.Post κs a r x → is_name.Post κs a s y → r ≡ s
is_name_determined κs a r s x y p q = determined p q

pub judge_table_determined : (κs : _) (a : _) (r s : _) (x y : _) → judge_table.Post κs a r x → judge_table.Post κs a s y → r ≡ s
judge_table_determined κs a r s x y p q = number_in_unique (λ u v. refl) r s (p ∙ sym q)

pub find_device_determined : (κs : _) (a : _) (r s : _) (x y : _) → find_device.Post κs a r x → find_device.Post κs a s y → r ≡ s
find_device_determined κs a r s x y p q = found_told_unique r s (p ∙ sym q)
