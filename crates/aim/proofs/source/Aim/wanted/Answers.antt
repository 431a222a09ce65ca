-- The image's word where it gives one, in the bits that the word has.
use Rattle.aim.specs.LawsAim.{is_silent, is_given, is_under}
use borrow.Author.Rules.{rules}
use Rattle.aim.proofs.source.Aim.wanted.Goals as goal

pub returns-then-given : goal.returns-then-given
returns-then-given c = search (is_silent, rules)

pub returns-then-i-self : goal.returns-then-i-self
returns-then-i-self c = search (is_given, rules)

pub returns : goal.returns
returns c = search (is_under, rules)
