-- What the programs newsheet and oldsheet print: the refusals of every program, or the moved sheet.
use Rattle.std.specs.Prelude.{ℕ, List, eqb}
use Rattle.words.specs.Choice.{unless}
use Rattle.print.specs.Print.{refused_text}
use Rattle.board.specs.Open.{board_number}
use Rattle.moves.specs.Move.{new_of, old_of}

unfoldable pub newsheet_text : (table sheet : List ℕ) → List ℕ
newsheet_text table sheet =
    unless (eqb (board_number table sheet) 0) (refused_text (board_number table sheet) 0 0)
    (new_of table sheet)

unfoldable pub oldsheet_text : (table sheet : List ℕ) → List ℕ
oldsheet_text table sheet =
    unless (eqb (board_number table sheet) 0) (refused_text (board_number table sheet) 0 0)
    (old_of table sheet)
