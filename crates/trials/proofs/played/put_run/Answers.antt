-- A step was refused, or the cells are still words and their sheet is printed.
use Rattle.std.proofs.Common.{Err, ◌≤◌, sym, refl, arith, length-take-le}
use Rattle.print.specs.LawsPrint.{prints_as}
use Rattle.trials.specs.LawsPlayed.{copy_room, cells_room, cells_part, cells_are, steps_few, run_room, run_part, run_stopped, run_whole}
use Rattle.trials.proofs.played.put_run.Goals as goal

pub slice_bounds-cells-end : goal.slice_bounds-cells-end
slice_bounds-cells-end c = copy_room c.args.d c.requires.0 _ c.requires.1

pub slice_bounds-copy_from_slice-end : goal.slice_bounds-copy_from_slice-end
slice_bounds-copy_from_slice-end c = sym (length-take-le _ _ (copy_room c.args.d c.requires.0 _ c.requires.1))

pub copy_from_slice-requires : goal.copy_from_slice-requires
copy_from_slice-requires c = length-take-le _ _ (copy_room c.args.d c.requires.0 _ c.requires.1)

pub slice_bounds-cells-end-2 : goal.slice_bounds-cells-end-2
slice_bounds-cells-end-2 c = cells_room c.args.d c.requires.0 _ c.requires.1 _ c.copy_from_slice.ensures.after

pub slice_bounds-run-end : goal.slice_bounds-run-end
slice_bounds-run-end c = sym (cells_part c.args.d c.requires.0 _ c.requires.1 _ c.copy_from_slice.ensures.after)

pub slice_bounds-cells-end-in-Ok : goal.slice_bounds-cells-end-in-Ok
slice_bounds-cells-end-in-Ok c =
    let p = c.requires in
    run_room c.args.d p.0 _ p.1 _ _ (cells_are c.args.d p.0 _ p.1 _ c.copy_from_slice.ensures.after) _ _ _ c.run.ensures _

pub slice_bounds-print_sheet-end : goal.slice_bounds-print_sheet-end
slice_bounds-print_sheet-end c =
    let p = c.requires in
    sym (run_part c.args.d p.0 _ p.1 _ _ (cells_are c.args.d p.0 _ p.1 _ c.copy_from_slice.ensures.after) _ _ _ c.run.ensures _)

pub overflow_cast-line : goal.overflow_cast-line
overflow_cast-line c =
    let p = c.requires in
    let few : c.in-Err.stopped.steps ≤ 32768 = steps_few c.args.d p.0 _ p.1 _ _ (cells_are c.args.d p.0 _ p.1 _ c.copy_from_slice.ensures.after) (Err c.in-Err.stopped) _ _ c.in-Err.ensures in
    omega arith

pub overflow_add-line : goal.overflow_add-line
overflow_add-line c =
    let p = c.requires in
    let few : c.in-Err.stopped.steps ≤ 32768 = steps_few c.args.d p.0 _ p.1 _ _ (cells_are c.args.d p.0 _ p.1 _ c.copy_from_slice.ensures.after) (Err c.in-Err.stopped) _ _ c.in-Err.ensures in
    omega arith

pub returns-in-Ok : goal.returns-in-Ok
returns-in-Ok c =
    let p = c.requires in
    prints_as _ _ _ _ _ (run_whole c.args.d p.0 _ p.1 _ _ (cells_are c.args.d p.0 _ p.1 _ c.copy_from_slice.ensures.after) _ _ _ _ c.in-Ok.ensures p.2 _) c.print_sheet.ensures

pub returns-in-Err : goal.returns-in-Err
returns-in-Err c =
    let p = c.requires in
    prints_as _ _ _ _ _ (run_stopped c.args.d p.0 _ p.1 _ _ (cells_are c.args.d p.0 _ p.1 _ c.copy_from_slice.ensures.after) _ _ _ _ c.in-Err.ensures _ refl _ (omega arith)) c.refusal.ensures
