-- There is room for every reading, and its words are sound.
use Rattle.std.proofs.Common.{ℕ, sym, arith, length-take-le}
use Rattle.std.proofs.lemmas.List.{length-replicate}
use Rattle.print.specs.LawsPrint.{prints_as}
use Rattle.board.specs.LawsBoard.{most_reading}
use Rattle.gathers.specs.LawsGather.{gather_read_again, gather_few, gather_room, gather_sound, gather_sheet}
use Rattle.gathers.proofs.put_sheet.Goals as goal

pub returns-in_err-id-clause-number : goal.returns-in_err-id-clause-number
returns-in_err-id-clause-number c = absurd (gather_read_again _ _ c.args.answers.now c.in_ok-device.ensures.number _ c.in_err-id.ensures)

pub lines_ok-requires : goal.lines_ok-requires
lines_ok-requires c = gather_few _ _ c.args.answers.now c.in_ok-device.ensures.number _ c.in_ok-device.ensures.found

pub slice_bounds-words-end : goal.slice_bounds-words-end
slice_bounds-words-end c = gather_room _ _ c.args.answers.now c.in_ok-device.ensures.number _ c.in_ok-device.ensures.found

pub slice_bounds-reading-end : goal.slice_bounds-reading-end
slice_bounds-reading-end c = sym (length-take-le _ _ (omega (arith, length-replicate {A = ℕ} most_reading 0, gather_room _ _ c.args.answers.now c.in_ok-device.ensures.number _ c.in_ok-device.ensures.found)))

pub store-requires : goal.store-requires
store-requires c = (
  gather_few _ _ c.args.answers.now c.in_ok-device.ensures.number _ c.in_ok-device.ensures.found,
  length-take-le _ _ (omega (arith, length-replicate {A = ℕ} most_reading 0, gather_room _ _ c.args.answers.now c.in_ok-device.ensures.number _ c.in_ok-device.ensures.found)),
  gather_sound _ _ _ c.in_ok-device.ensures.number _ c.in_ok-device.ensures.found c.if-not-lines_ok.ensures,
)

pub returns-clause-text : goal.returns-clause-text
returns-clause-text c = prints_as _ _ _ _ _ (gather_sheet _ _ _ c.in_ok-device.ensures.number _ c.in_ok-device.ensures.found c.if-not-lines_ok.ensures _ c.in_ok-id.ensures _ c.store.ensures) c.print_sheet.ensures
