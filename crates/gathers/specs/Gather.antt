-- What the program gather prints: the sheet of the words that a read-back answered, a word a line.
use Rattle.std.specs.Prelude.{ℕ, ◌+◌, ◌*◌, Bool, ◌&&◌, List, [], ◌∷◌, ◌++◌, eqb}
use Rattle.words.specs.Choice.{unless}
use Rattle.words.specs.Lists.{build}
use Rattle.numerals.specs.Text.{lf}
use Rattle.numerals.specs.Hex.{capital_of, word_by, word_text}
use Rattle.device.specs.Memory.{reading_tail, reading_ok}
use Rattle.sheet.specs.FirstLine.{same_text, first_line}
use Rattle.sheet.specs.Sheet.{sheet_with}
use Rattle.print.specs.Print.{refused_text}
use Rattle.board.specs.Open.{record_of, open_number}

-- words as they are read back, a line each: four hex digits, LF
unfoldable pub answer_text : List ℕ → List ℕ
answer_text [] = []
answer_text (w ∷ l) = word_text w ++ (lf ∷ answer_text l)

-- the P+9 words that stand in a text of such lines
unfoldable pub answers_in : (words : ℕ) → (text : List ℕ) → List ℕ
answers_in words text = build (words + reading_tail) (λ i. word_by capital_of text (5 * i))

-- a text is just such lines of P+9 words
unfoldable pub answers_ok : (words : ℕ) → (text : List ℕ) → Bool
answers_ok words text = reading_ok words (answers_in words text) && same_text text (answer_text (answers_in words text))

-- 15, 14 for line 1 of the sheet, 16, 17, 21
unfoldable pub gather_number : (table sheet answers : List ℕ) → ℕ
gather_number table sheet answers =
    unless (eqb (open_number table sheet) 0) (open_number table sheet)
    (unless (answers_ok (record_of table sheet).words answers) 21
    0)

-- the sheet of the words: line 1 stays the board's
abbrev pub gathered : (table sheet answers : List ℕ) → List ℕ
gathered table sheet answers = sheet_with (first_line sheet).id (record_of table sheet) (answers_in (record_of table sheet).words answers)

unfoldable pub gather_text : (table sheet answers : List ℕ) → List ℕ
gather_text table sheet answers =
    unless (eqb (gather_number table sheet answers) 0) (refused_text (gather_number table sheet answers) 0 0)
    (sheet_with (first_line sheet).id (record_of table sheet) (answers_in (record_of table sheet).words answers))
