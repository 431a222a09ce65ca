-- The table's entry at the character.
use borrow.Author.Rules.{rules}
use Rattle.hexread.specs.LawsDecode.{table_digit}
use Rattle.hexread.proofs.digits.Digits.value.Goals as goal

pub returns : goal.returns
returns c = rw c.from.ensures (table_digit _ _ c.args.self.now.told (search rules))
