-- No room and 35, or the word at the counter.
use Rattle.std.proofs.Common.{refl}
use Rattle.target.specs.LawsOrders.{fetch_refused, fetch_taken}
use Rattle.target.specs.LawsHeld.{leaves}
use Rattle.target.proofs.board.Board.fetch.Goals as goal

pub returns-then-self : goal.returns-then-self
returns-then-self c = leaves _ _ _ _ (fetch_refused _ _ c.if-self.true) refl refl refl

pub returns : goal.returns
returns c = leaves _ _ _ _ (fetch_taken _ _ c.if-self.false c.args.self.now.room _ c.word.ensures) refl refl refl
