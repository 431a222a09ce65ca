-- The judge is asked of the board's reading.
use Rattle.std.proofs.Common.{refl, sym}
use Rattle.board.specs.LawsBoard.{board_answered}
use Rattle.reports.specs.LawsPrograms.{sum_answered}
use Rattle.reports.proofs.checksums.sum_of.Goals as goal

pub slice_bounds-checksum-end : goal.slice_bounds-checksum-end
slice_bounds-checksum-end c = sym (board_answered _ _ c.in_ok-found.ensures.number _ c.in_ok-found.ensures.found _ c.in_ok-found.ensures.buffer).long

pub returns-clause-number : goal.returns-clause-number
returns-clause-number c = rw (sum_answered _ _ c.in_ok-found.ensures.number _ _ (board_answered _ _ c.in_ok-found.ensures.number _ c.in_ok-found.ensures.found _ c.in_ok-found.ensures.buffer) _ c.checksum.ensures) c.in_ok-found.ensures.number

pub returns-clause-sum : goal.returns-clause-sum
returns-clause-sum c = rw (sum_answered _ _ c.in_ok-found.ensures.number _ _ (board_answered _ _ c.in_ok-found.ensures.number _ c.in_ok-found.ensures.found _ c.in_ok-found.ensures.buffer) _ c.checksum.ensures) refl

pub slice_bounds-reading-end : goal.slice_bounds-reading-end
slice_bounds-reading-end c = (board_answered _ _ c.in_ok-found.ensures.number _ c.in_ok-found.ensures.found _ c.in_ok-found.ensures.buffer).within
