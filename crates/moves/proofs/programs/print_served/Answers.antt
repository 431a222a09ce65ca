-- What was written stands within the buffer.
use Rattle.std.proofs.Common.{sym, length-take-le}
use Rattle.moves.specs.LawsPrograms.{served_within}
use Rattle.moves.proofs.programs.print_served.Goals as goal

pub slice_bounds-whole-end : goal.slice_bounds-whole-end
slice_bounds-whole-end c = served_within _ _ _ c.requires _ c.in-Ok.ensures.answer _ c.in-Ok.ensures.buffer

pub slice_bounds-text-end : goal.slice_bounds-text-end
slice_bounds-text-end c = sym (length-take-le _ _ (served_within _ _ _ c.requires _ c.in-Ok.ensures.answer _ c.in-Ok.ensures.buffer))
