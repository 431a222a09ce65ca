-- The latches that count are the first R.
use Rattle.std.proofs.Common.{◌∙◌, arith}
use Rattle.target.specs.LawsStep.{sound_taken}
use Rattle.target.specs.LawsHeld.{sound_at}
use Rattle.target.proofs.board.Board.has_words.Goals as goal

pub returns : goal.returns
returns c = let h = (sound_at c.args.self.now).carried in c.is_words.ensures ∙ sound_taken _ _ (omega arith)

pub shared_ref_as_front-is_words : goal.shared_ref_as_front-is_words
shared_ref_as_front-is_words c = (sound_at c.args.self.now).carried
