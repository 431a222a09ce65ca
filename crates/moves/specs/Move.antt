-- A sheet of either form, moved to the new or to the old one under a table (#106): 15, 14 for line 1, 16, 14 for the rest, 18, 19, 26.
use Rattle.std.specs.Prelude.{ℕ, List, leb, eqb, length}
use Rattle.std.proofs.lemmas.List.Edits.{sets}
use Rattle.words.specs.Choice.{pick, unless}
use Rattle.table.specs.Table.{table_ok, table_lines, has_id}
use Rattle.judge.specs.Checksum.{checksum_of}
use Rattle.sheet.specs.FirstLine.{first_line}
use Rattle.sheet.specs.Sheet.{sheet_with, new_with, sheet_number}
use Rattle.sheetwrite.specs.Write.{Written}
use Rattle.board.specs.Open.{record_of, name_of, board_reading}

-- 15, 14 for line 1, 16; and then 14 for the rest, 18, 19
unfoldable pub move_number : (table text : List ℕ) → ℕ
move_number table text =
    unless (table_ok table) 15
    (unless (eqb (first_line text).number 0) 14
    (unless (has_id (first_line text).id (table_lines table)) 16
    (sheet_number (record_of table text) (name_of table text) text)))

-- the sheet in the new form: line 1's ID, the table's name, the checksum of the words
unfoldable pub new_of : (table text : List ℕ) → List ℕ
new_of table text =
    new_with (first_line text).id (name_of table text) (checksum_of (record_of table text) (board_reading table text)) (record_of table text) (board_reading table text)

-- in the old form: line 1's ID
unfoldable pub old_of : (table text : List ℕ) → List ℕ
old_of table text = sheet_with (first_line text).id (record_of table text) (board_reading table text)

-- what a call answers that moves a sheet to this text: its refusal, and then 26
unfoldable pub moved : (number : ℕ) (whole out : List ℕ) → Written
moved number whole out =
    unless (eqb number 0) (record { number = number; length = 0 })
    (unless (leb (length whole) (length out)) (record { number = 26; length = 0 })
    (record { number = 0; length = length whole }))

-- bytes past the sheet stay, and a refusal writes nothing
unfoldable pub moved_text : (number : ℕ) (whole out : List ℕ) → List ℕ
moved_text number whole out = pick (eqb (moved number whole out).number 0) (sets out 0 whole) out
