-- The counter's low bits are its remainder.
use Rattle.target.specs.LawsCells.{some_row, latch_bits}
use Rattle.target.specs.LawsHeld.{rules_at}
use Rattle.target.proofs.board.Board.latch.Goals as goal

pub overflow_sub-result : goal.overflow_sub-result
overflow_sub-result c = some_row _ (rules_at c.args.self.now)

pub returns : goal.returns
returns c = latch_bits _ (rules_at c.args.self.now) _
