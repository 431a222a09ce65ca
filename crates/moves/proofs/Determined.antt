-- For each public call: two results that its promise allows are equal, the answer and the later content of what was lent.
use mathlib.Core.Path.{◌≡◌}
use Rattle.words.specs.LawsPromise.{determined}
use Rattle.moves.specs.LawsMove.{moved_unique}
use Rattle.print.specs.LawsPrint.{prints_determined}
use Rattle.moves.proofs.sheets.to_new.Reads as to_new
use Rattle.moves.proofs.sheets.to_old.Reads as to_old
use Rattle.moves.proofs.programs.newsheet.Reads as newsheet
use Rattle.moves.proofs.programs.oldsheet.Reads as oldsheet

pub to_new_determined : (κs : _) (a : _) (r s : _) (x y : _) → to_new.Post κs a r x → to_new.Post κs a s y → (r ≡ s) × (x.1.1.0.now ≡ y.1.1.0.now)
to_new_determined κs a r s x y p q = (moved_unique r s (determined p.0 q.0), determined p.1 q.1)

pub to_old_determined : (κs : _) (a : _) (r s : _) (x y : _) → to_old.Post κs a r x → to_old.Post κs a s y → (r ≡ s) × (x.1.1.0.now ≡ y.1.1.0.now)
to_old_determined κs a r s x y p q = (moved_unique r s (determined p.0 q.0), determined p.1 q.1)

pub newsheet_determined : (κs : _) (a : _) (r s : _) (x y : _) → newsheet.Post κs a r x → newsheet.Post κs a s y → (r ≡ s) × (x.1.1.0.now ≡ y.1.1.0.now)
newsheet_determined κs a r s x y p q = prints_determined p.0 q.0

pub oldsheet_determined : (κs : _) (a : _) (r s : _) (x y : _) → oldsheet.Post κs a r x → oldsheet.Post κs a s y → (r ≡ s) × (x.1.1.0.now ≡ y.1.1.0.now)
oldsheet_determined κs a r s x y p q = prints_determined p.0 q.0
