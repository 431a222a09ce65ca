-- What the programs readback, update and fresh print ('Worked on the bench'; the order of the programs).
use Rattle.std.specs.Prelude.{ℕ, ◌+◌, List, [], ◌∷◌, ◌++◌, leb, eqb, length, get_or}
use Rattle.words.specs.Choice.{unless}
use Rattle.device.specs.Memory.{device_id}
use Rattle.numerals.specs.Text.{tab, lf}
use Rattle.numerals.specs.Hex.{byte_text}
use Rattle.target.specs.Stream.{bytes_of}
use Rattle.hexread.specs.Reader.{Outcome, blank_image, refused_at, text_read}
use Rattle.plan.specs.Steps.{update_steps, fresh_steps, read_back_steps}
use Rattle.aim.specs.Refusal.{update_number, fresh_number}
use Rattle.print.specs.Print.{refused_text}
use Rattle.board.specs.Open.{record_of, open_number, board_number, board_reading}

-- a stream's bytes, a line a step: code, tab, payload
unfoldable pub stream_text : List ℕ → List ℕ
stream_text [] = []
stream_text (c ∷ []) = []
stream_text (c ∷ l ∷ []) = []
stream_text (c ∷ l ∷ h ∷ s) = byte_text c ++ tab ∷ (byte_text h ++ (byte_text l ++ lf ∷ stream_text s))

-- ---- readback: the table, and the sheet's first line

unfoldable pub readback_text : (table sheet : List ℕ) → List ℕ
readback_text table sheet =
    unless (eqb (open_number table sheet) 0) (refused_text (open_number table sheet) 0 0)
    (stream_text (bytes_of (read_back_steps (record_of table sheet))))

-- ---- update and fresh: the board, then the HEX file, then the stream

-- a program's HEX file has at most 65,536 bytes
unfoldable pub hex_of : (table sheet hex : List ℕ) → Outcome
hex_of table sheet hex =
    unless (leb (length hex) 65536) (refused_at (record_of table sheet).words 1 0 0)
    (text_read (record_of table sheet) hex (blank_image (record_of table sheet).words))

-- what a planner's stream is printed as
unfoldable pub plan_text : (number : ℕ) → (stream : List ℕ) → List ℕ
plan_text number stream = unless (eqb number 0) (refused_text number 0 0) (stream_text stream)

unfoldable pub update_text : (table sheet hex : List ℕ) → List ℕ
update_text table sheet hex =
    unless (eqb (board_number table sheet) 0) (refused_text (board_number table sheet) 0 0)
    (unless (eqb (hex_of table sheet hex).number 0) (refused_text (hex_of table sheet hex).number (hex_of table sheet hex).line (hex_of table sheet hex).column)
    (plan_text (update_number (record_of table sheet) (hex_of table sheet hex).image (board_reading table sheet))
    (bytes_of (update_steps (record_of table sheet) (hex_of table sheet hex).image (board_reading table sheet)))))

-- the ID word is the sheet's
unfoldable pub fresh_text : (table sheet hex : List ℕ) → List ℕ
fresh_text table sheet hex =
    unless (eqb (board_number table sheet) 0) (refused_text (board_number table sheet) 0 0)
    (unless (eqb (hex_of table sheet hex).number 0) (refused_text (hex_of table sheet hex).number (hex_of table sheet hex).line (hex_of table sheet hex).column)
    (plan_text (fresh_number (record_of table sheet) (hex_of table sheet hex).image (get_or (board_reading table sheet) ((record_of table sheet).words + device_id) 0))
    (bytes_of (fresh_steps (record_of table sheet) (hex_of table sheet hex).image))))
