-- For each public call: two results that its promise allows are equal, the answer and the later content of what was lent.
use Rattle.std.proofs.Common.{◌≡◌, refl, sym, ◌∙◌}
use Rattle.words.specs.LawsPromise.{determined}
use Rattle.refusal.specs.LawsRefusal.{number_in_unique}
use Rattle.sheet.specs.LawsFirstLine.{id_told_unique}
use Rattle.sheet.proofs.read.read_sheet.Reads as read_sheet
use Rattle.sheet.proofs.read.read_id.Reads as read_id

pub read_sheet_determined : (κs : _) (a : _) (r s : _) (x y : _) → read_sheet.Post κs a r x → read_sheet.Post κs a s y → (r ≡ s) × (x.1.1.1.0.now ≡ y.1.1.1.0.now)
read_sheet_determined κs a r s x y p q = (number_in_unique (λ u v. refl) r s (p.0 ∙ sym q.0), determined p.1 q.1)

pub read_id_determined : (κs : _) (a : _) (r s : _) (x y : _) → read_id.Post κs a r x → read_id.Post κs a s y → r ≡ s
read_id_determined κs a r s x y p q = id_told_unique r s (p ∙ sym q)
