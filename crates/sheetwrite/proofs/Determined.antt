-- For each public call: two results that its promise allows are equal, the answer and the later content of what was lent.
use Rattle.std.proofs.Common.{◌≡◌, sym, ◌∙◌}
use Rattle.words.specs.LawsPromise.{determined}
use Rattle.sheetwrite.specs.LawsWrite.{written_told_unique}
use Rattle.sheetwrite.proofs.write.write_sheet.Reads as write_sheet
use Rattle.sheetwrite.proofs.write.write_new_sheet.Reads as write_new_sheet

pub write_sheet_determined : (κs : _) (a : _) (r s : _) (x y : _) → write_sheet.Post κs a r x → write_sheet.Post κs a s y → (r ≡ s) × (x.1.1.0.now ≡ y.1.1.0.now)
write_sheet_determined κs a r s x y p q = (written_told_unique r s (p.0 ∙ sym q.0), determined p.1 q.1)

pub write_new_sheet_determined : (κs : _) (a : _) (r s : _) (x y : _) → write_new_sheet.Post κs a r x → write_new_sheet.Post κs a s y → (r ≡ s) × (x.1.1.1.0.now ≡ y.1.1.1.0.now)
write_new_sheet_determined κs a r s x y p q = (written_told_unique r s (p.0 ∙ sym q.0), determined p.1 q.1)
