-- The sheet of a reading that was filled in.
use Rattle.std.proofs.Common.{sym, ◌∙◌}
use Rattle.device.specs.LawsMemory.{reading_long}
use Rattle.print.specs.LawsPrint.{prints_as}
use Rattle.board.specs.LawsBoard.{served_room, served_long}
use Rattle.listings.specs.LawsLeft.{left_within, left_part, left_sheet}
use Rattle.listings.proofs.wanteds.put_left.Goals as goal

pub slice_bounds-words-end : goal.slice_bounds-words-end
slice_bounds-words-end c = served_room _ c.requires.0 0

pub slice_bounds-fill-end : goal.slice_bounds-fill-end
slice_bounds-fill-end c = sym (served_long _ c.requires.0 0)

pub fill-requires : goal.fill-requires
fill-requires c = served_long _ c.requires.0 0 ∙ sym (reading_long _ _ c.requires.1)

pub slice_bounds-words-end-2 : goal.slice_bounds-words-end-2
slice_bounds-words-end-2 c =
    let p = c.requires in
    left_within _ _ _ _ p.1 p.2 _ _ (rw c.known.ensures at c.fill.ensures)

pub slice_bounds-print_sheet-end : goal.slice_bounds-print_sheet-end
slice_bounds-print_sheet-end c =
    let p = c.requires in
    sym (left_part _ _ _ _ p.1 p.2 _ _ (rw c.known.ensures at c.fill.ensures))

pub returns : goal.returns
returns c =
    let p = c.requires in
    prints_as _ _ _ _ _ (left_sheet _ _ _ _ p.1 p.2 _ _ (rw c.known.ensures at c.fill.ensures) p.0 _ p.3) c.print_sheet.ensures
