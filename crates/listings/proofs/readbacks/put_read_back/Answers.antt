-- The stream has room.
use Rattle.std.proofs.Common.{rules, sym, length, ◌*◌, ◌≤◌, length-take-le}
use Rattle.print.specs.LawsPrint.{prints_as}
use Rattle.listings.specs.LawsPlanned.{read_back_within, read_back_printed, read_back_never}
use Rattle.listings.proofs.readbacks.put_read_back.Goals as goal

pub overflow_mul-stream : goal.overflow_mul-stream
overflow_mul-stream c = let w : 3 * c.in-Ok.steps ≤ length c.read_back.new.out = read_back_within _ c.requires _ (search rules) _ _ c.in-Ok.ensures in search rules

pub slice_bounds-stream-end : goal.slice_bounds-stream-end
slice_bounds-stream-end c = read_back_within _ c.requires _ (search rules) _ _ c.in-Ok.ensures

pub slice_bounds-put_stream-end : goal.slice_bounds-put_stream-end
slice_bounds-put_stream-end c = sym (length-take-le _ _ (read_back_within _ c.requires _ (search rules) _ _ c.in-Ok.ensures))

pub returns-in-Ok : goal.returns-in-Ok
returns-in-Ok c = prints_as _ _ _ _ _ (read_back_printed _ c.requires _ (search rules) _ _ c.in-Ok.ensures) c.put_stream.ensures

pub returns-in-Err : goal.returns-in-Err
returns-in-Err c = absurd (read_back_never _ c.requires _ (search rules) _ _ c.in-Err.ensures)
