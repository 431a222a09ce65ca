-- By the bit that tells whether the board is protected.
use Rattle.std.proofs.Common.{◌∙◌, sym}
use Rattle.judge.specs.LawsChecksum.{sum_hidden_of, sum_shown_of}
use Rattle.judge.proofs.checksums.sum_of.Goals as goal
use Rattle.judge.proofs.checksums.sum_of.Goals.{then-is_protected, else-is_protected}

pub returns : goal.returns
returns c = elim c.if-is_protected.branch [
  | then-is_protected w ↦ sum_hidden_of _ _ _ _ c.add_config-config.ensures.0 (w.others-is ∙ w.join_nibbles-others.ensures.0) (sym w.if-is_protected.ensures)
  | else-is_protected w ↦ sum_shown_of _ _ _ _ c.add_config-config.ensures.0 (w.others-is ∙ w.add_words-others.ensures.0) (sym w.if-is_protected.ensures)
]
