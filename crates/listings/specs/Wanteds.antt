-- What the programs wanted and wanted_fresh print: the sheet that the stream of update or of fresh is to leave, or what that planner refuses. Line 1 stays the board's.
use Rattle.std.specs.Prelude.{ℕ, ◌+◌, List, [], eqb, get_or}
use Rattle.words.specs.Choice.{unless}
use Rattle.device.specs.declared.Device.{Device}
use Rattle.device.specs.Memory.{device_id}
use Rattle.sheet.specs.FirstLine.{first_line}
use Rattle.sheet.specs.Sheet.{sheet_with}
use Rattle.aim.specs.Refusal.{update_number, fresh_number}
use Rattle.plan.specs.Demands.{programmed}
use Rattle.print.specs.Print.{refused_text}
use Rattle.board.specs.Open.{record_of, board_number, board_reading}
use Rattle.listings.specs.Streams.{hex_of}

-- a planner's refusal, or the sheet of this reading with this ID on line 1
unfoldable pub left_text : (number id : ℕ) → Device → (reading : List ℕ) → List ℕ
left_text number id d reading = unless (eqb number 0) (refused_text number 0 0) (sheet_with id d reading)

-- the reading with each program word, user ID and configuration word at its wanted value
unfoldable pub wanted_text : (table sheet hex : List ℕ) → List ℕ
wanted_text table sheet hex =
    unless (eqb (board_number table sheet) 0) (refused_text (board_number table sheet) 0 0)
    (unless (eqb (hex_of table sheet hex).number 0) (refused_text (hex_of table sheet hex).number (hex_of table sheet hex).line (hex_of table sheet hex).column)
    (left_text (update_number (record_of table sheet) (hex_of table sheet hex).image (board_reading table sheet)) (first_line sheet).id (record_of table sheet)
    (programmed (record_of table sheet) (hex_of table sheet hex).image (board_reading table sheet) (board_reading table sheet))))

-- the same where a fresh programming knows nothing of the board
unfoldable pub wanted_fresh_text : (table sheet hex : List ℕ) → List ℕ
wanted_fresh_text table sheet hex =
    unless (eqb (board_number table sheet) 0) (refused_text (board_number table sheet) 0 0)
    (unless (eqb (hex_of table sheet hex).number 0) (refused_text (hex_of table sheet hex).number (hex_of table sheet hex).line (hex_of table sheet hex).column)
    (left_text (fresh_number (record_of table sheet) (hex_of table sheet hex).image (get_or (board_reading table sheet) ((record_of table sheet).words + device_id) 0)) (first_line sheet).id (record_of table sheet)
    (programmed (record_of table sheet) (hex_of table sheet hex).image [] (board_reading table sheet))))
