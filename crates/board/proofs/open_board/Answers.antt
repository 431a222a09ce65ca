-- A refused record leaves the buffer.
use Rattle.board.specs.LawsBoard.{board_unopened, board_kept}
use Rattle.board.proofs.open_board.Goals as goal

pub returns-in_err-found-clause-buffer : goal.returns-in_err-found-clause-buffer
returns-in_err-found-clause-buffer c = board_kept _ _ _ (board_unopened _ _ _ c.in_err-found.ensures.number) _
