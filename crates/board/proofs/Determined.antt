-- For each public call: two results that its promise allows are equal, the answer and the later content of the buffer.
use Rattle.std.proofs.Common.{◌≡◌, sym, ◌∙◌}
use Rattle.print.specs.LawsPrint.{prints_determined}
use Rattle.board.specs.LawsOpen.{opened_fixed}
use Rattle.board.proofs.find_record.Reads as find_record
use Rattle.board.proofs.open_record.Reads as open_record
use Rattle.board.proofs.open_board.Reads as open_board
use Rattle.board.proofs.print_sheet.Reads as print_sheet

pub find_record_determined : (κs : _) (a : _) (r s : _) (x y : _) → find_record.Post κs a r x → find_record.Post κs a s y → r ≡ s
find_record_determined κs a r s x y p q = opened_fixed _ r s (p.0 ∙ sym q.0) p.1 q.1

pub open_record_determined : (κs : _) (a : _) (r s : _) (x y : _) → open_record.Post κs a r x → open_record.Post κs a s y → r ≡ s
open_record_determined κs a r s x y p q = opened_fixed _ r s (p.0 ∙ sym q.0) p.1 q.1

pub open_board_determined : (κs : _) (a : _) (r s : _) (x y : _) → open_board.Post κs a r x → open_board.Post κs a s y → (r ≡ s) × (x.1.1.0.now ≡ y.1.1.0.now)
open_board_determined κs a r s x y p q = (opened_fixed _ r s (p.0 ∙ sym q.0) p.1.0 q.1.0, p.1.1 ∙ sym q.1.1)

pub print_sheet_determined : (κs : _) (a : _) (r s : _) (x y : _) → print_sheet.Post κs a r x → print_sheet.Post κs a s y → (r ≡ s) × (x.1.1.1.0.now ≡ y.1.1.1.0.now)
print_sheet_determined κs a r s x y p q = prints_determined p q
