-- The digits, and then the mark.
use Rattle.print.specs.LawsPrint.{wrote_then, wrote_word}
use Rattle.print.proofs.parts.put_hex.Goals as goal

pub returns : goal.returns
returns c = wrote_then _ _ _ _ _ _ _ _ (wrote_word _ _ _ _ c.put_word.ensures) c.put_one.ensures
