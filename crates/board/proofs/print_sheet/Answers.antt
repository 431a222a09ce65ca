-- What was written stands within the buffer.
use Rattle.std.proofs.Common.{sym, length-take-le}
use Rattle.board.specs.LawsWritten.{sheet_stored}
use Rattle.board.proofs.print_sheet.Goals as goal

pub slice_bounds-sheet-end : goal.slice_bounds-sheet-end
slice_bounds-sheet-end c = (sheet_stored c.args.d _ _ _ c.in-Ok.ensures.0 _ c.in-Ok.ensures.1).within

pub slice_bounds-text-end : goal.slice_bounds-text-end
slice_bounds-text-end c = sym (length-take-le _ _ (sheet_stored c.args.d _ _ _ c.in-Ok.ensures.0 _ c.in-Ok.ensures.1).within)
