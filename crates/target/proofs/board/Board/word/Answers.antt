-- A hidden word, a program word, or a word of configuration space.
use Rattle.std.proofs.Common.{◌≡◌, ◌∙◌, get_or}
use Rattle.target.specs.LawsCells.{read_hidden, read_program, read_at}
use Rattle.target.specs.LawsHeld.{sound_at}
use borrow.Author.Rules.{rules}
use Rattle.target.proofs.board.Board.word.Goals as goal

pub returns-then-is_protected : goal.returns-then-is_protected
returns-then-is_protected c = search (read_hidden, rules)

pub returns-then-at-self : goal.returns-then-at-self
returns-then-at-self c = search (read_program, sound_at, rules)

pub returns : goal.returns
returns c = let e : c.unwrap_or.result ≡ get_or c.args.self.now.cells.now c.cell_of.result 0 = search rules in e ∙ read_at _ _ _ c.if-at-self.false _ c.cell_of.ensures
