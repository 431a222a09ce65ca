-- The first mark parts the text, or there is none.
use Rattle.std.proofs.Common.{sym, ◌∙◌}
use Rattle.table.specs.LawsPieces.{parted_none, parted_at}
use Rattle.table.proofs.pieces.split_once.Goals as goal

pub returns-in_err-at : goal.returns-in_err-at
returns-in_err-at c = rw c.from_residual.ensures (parted_none _ _ (sym c.find.ensures ∙ c.in_err-at.was))

pub returns : goal.returns
returns c = parted_at _ _ _ (sym c.in_ok-at.ensures)
