-- A digit below ten, or a capital.
use Rattle.words.specs.Choice.{pick}
use Rattle.numerals.specs.Hex.{digit_text}
use Rattle.words.specs.LawsChoice.{tests}
use borrow.Author.Rules.{rules}
use Rattle.numerals.proofs.hex.digit_text.Goals as goal

pub returns-then-n-lt10 : goal.returns-then-n-lt10
unfolding digit_text pick
returns-then-n-lt10 c = search (tests, rules)

pub returns-else-n-lt10 : goal.returns-else-n-lt10
unfolding digit_text pick
returns-else-n-lt10 c = search (tests, rules)
