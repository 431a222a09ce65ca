-- Two digits stored one after the other; past the end nothing.
use Rattle.numerals.specs.Hex.{byte_text}
use mathlib.Core.Path.{sym}
use Rattle.numerals.specs.LawsHex.{byte_put}
use Rattle.words.specs.LawsLists.{sets_past}
use borrow.Author.Rules.{rules}
use Rattle.numerals.proofs.hex.put_byte.Goals as goal

pub returns-then-at-out : goal.returns-then-at-out
returns-then-at-out c = search (byte_put, rules)

pub returns-else-at-out : goal.returns-else-at-out
returns-else-at-out c = sym (sets_past c.args.out.now c.args.at (byte_text c.args.b) c.if-at-out.false)
