-- The joined bits tell.
use Rattle.std.proofs.Common.{sym, ◌∙◌}
use borrow.Author.Tests.{ne_eqb}
use Rattle.words.specs.LawsWord.{words_short}
use Rattle.words.specs.LawsJoined.{joined_words}
use Rattle.words.proofs.list.is_words.Goals as goal

pub returns-then-l-n : goal.returns-then-l-n
returns-then-l-n c = joined_words _ _ _ c.if-l-n.true c.join.ensures

pub returns-else-l-n : goal.returns-else-l-n
returns-else-l-n c = ne_eqb _ _ c.if-l-n.false ∙ sym (words_short _ _ c.if-l-n.false)
