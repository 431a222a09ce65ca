-- The board is refused, or the wanted sheet under its record and name, or the two readings are judged.
use Rattle.std.proofs.Common.{◌+◌, ◌++◌, refl, sym, ap, length-take-le, drop, replicate}
use Rattle.std.proofs.lemmas.Result.{err_from_is_err_and}
use Rattle.device.specs.Memory.{reading_tail}
use Rattle.board.specs.LawsBoard.{most_reading, board_answered, other_room, other_long}
use Rattle.reports.specs.LawsPrograms.{verify_read, verify_within, verify_judged}
use Rattle.reports.proofs.verdicts.verdict_of.Goals as goal

pub slice_bounds-aim-end : goal.slice_bounds-aim-end
slice_bounds-aim-end c = other_room _ _ _ _ (board_answered _ _ c.in_ok-found.ensures.number _ c.in_ok-found.ensures.found _ c.in_ok-found.ensures.buffer) 0

pub slice_bounds-read_sheet-end : goal.slice_bounds-read_sheet-end
slice_bounds-read_sheet-end c = sym (other_long _ _ _ _ (board_answered _ _ c.in_ok-found.ensures.number _ c.in_ok-found.ensures.found _ c.in_ok-found.ensures.buffer) 0)

pub slice_bounds-reading-end : goal.slice_bounds-reading-end
slice_bounds-reading-end c = (board_answered _ _ c.in_ok-found.ensures.number _ c.in_ok-found.ensures.found _ c.in_ok-found.ensures.buffer).within

pub slice_bounds-verify-end-2 : goal.slice_bounds-verify-end-2
slice_bounds-verify-end-2 c = sym (board_answered _ _ c.in_ok-found.ensures.number _ c.in_ok-found.ensures.found _ c.in_ok-found.ensures.buffer).long

pub returns-in_err-read_sheet-clause-number : goal.returns-in_err-read_sheet-clause-number
returns-in_err-read_sheet-clause-number c = let p = err_from_is_err_and c.from_residual-in_err-read_sheet.result c.from_residual-in_err-read_sheet.ensures.1 in
    rw (p.1, p.2) (verify_read _ _ _ c.in_ok-found.ensures.number _ c.in_ok-found.ensures.found _ (board_answered _ _ c.in_ok-found.ensures.number _ c.in_ok-found.ensures.found _ c.in_ok-found.ensures.buffer) _ c.name.ensures _ c.in_err-read_sheet.ensures.0)

pub slice_bounds-aim-end-2 : goal.slice_bounds-aim-end-2
slice_bounds-aim-end-2 c = verify_within _ _ _ c.in_ok-found.ensures.number _ c.in_ok-found.ensures.found _
    (board_answered _ _ c.in_ok-found.ensures.number _ c.in_ok-found.ensures.found _ c.in_ok-found.ensures.buffer) _ c.name.ensures _ c.in_ok-read_sheet.ensures.0 refl _
    (ap (λ x. x ++ drop (c.in_ok-found.found.device.words + reading_tail) (replicate most_reading 0)) c.in_ok-read_sheet.ensures.1)

pub slice_bounds-verify-end : goal.slice_bounds-verify-end
slice_bounds-verify-end c = sym (length-take-le _ _ (verify_within _ _ _ c.in_ok-found.ensures.number _ c.in_ok-found.ensures.found _
    (board_answered _ _ c.in_ok-found.ensures.number _ c.in_ok-found.ensures.found _ c.in_ok-found.ensures.buffer) _ c.name.ensures _ c.in_ok-read_sheet.ensures.0 refl _
    (ap (λ x. x ++ drop (c.in_ok-found.found.device.words + reading_tail) (replicate most_reading 0)) c.in_ok-read_sheet.ensures.1)))

pub returns-clause-number : goal.returns-clause-number
returns-clause-number c = (verify_judged _ _ _ c.in_ok-found.ensures.number _ c.in_ok-found.ensures.found _
    (board_answered _ _ c.in_ok-found.ensures.number _ c.in_ok-found.ensures.found _ c.in_ok-found.ensures.buffer) _ c.name.ensures _ c.in_ok-read_sheet.ensures.0 refl _
    (ap (λ x. x ++ drop (c.in_ok-found.found.device.words + reading_tail) (replicate most_reading 0)) c.in_ok-read_sheet.ensures.1) _ c.verify.ensures).0

pub returns-clause-verdict : goal.returns-clause-verdict
returns-clause-verdict c = (verify_judged _ _ _ c.in_ok-found.ensures.number _ c.in_ok-found.ensures.found _
    (board_answered _ _ c.in_ok-found.ensures.number _ c.in_ok-found.ensures.found _ c.in_ok-found.ensures.buffer) _ c.name.ensures _ c.in_ok-read_sheet.ensures.0 refl _
    (ap (λ x. x ++ drop (c.in_ok-found.found.device.words + reading_tail) (replicate most_reading 0)) c.in_ok-read_sheet.ensures.1) _ c.verify.ensures).1
