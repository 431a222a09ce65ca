-- What the program dump prints: every word of a board's reading that may be given; 23 for a protected one, whose program words nobody can see.
use Rattle.std.specs.Prelude.{ℕ, ◌+◌, not, List, eqb, get_or}
use Rattle.words.specs.Choice.{pick, unless}
use Rattle.words.specs.Word.{not_given}
use Rattle.words.specs.Lists.{build}
use Rattle.device.specs.Memory.{reading_tail, programmable, protected}
use Rattle.hexwrite.specs.Writer.{hex_text}
use Rattle.print.specs.Print.{refused_text}
use Rattle.board.specs.Open.{record_of, board_number, board_reading}

unfoldable pub image_of : (words : ℕ) → (reading : List ℕ) → List ℕ
image_of words reading = build (words + reading_tail) (λ i. pick (programmable words i) (get_or reading i 0) not_given)

unfoldable pub dump_text : (table sheet : List ℕ) → List ℕ
dump_text table sheet =
    unless (eqb (board_number table sheet) 0) (refused_text (board_number table sheet) 0 0)
    (unless (not (protected (record_of table sheet).words (board_reading table sheet))) (refused_text 23 0 0)
    (hex_text (record_of table sheet).words (image_of (record_of table sheet).words (board_reading table sheet))))
