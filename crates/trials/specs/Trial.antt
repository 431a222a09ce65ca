-- What the program trial prints: a printed stream is played on the model ('Steps of the target'), and the sheet afterwards.
use Rattle.std.specs.Prelude.{ℕ, ◌+◌, ◌/◌, ◌%◌, Bool, ◌&&◌, List, [], ◌∷◌, ◌++◌, ltb, leb, eqb, length, get_or, take, replicate}
use Rattle.words.specs.Choice.{pick, unless}
use Rattle.words.specs.Word.{erased}
use Rattle.numerals.specs.Text.{tab, lf, split}
use Rattle.numerals.specs.Hex.{capital_of, byte_by, word_by}
use Rattle.device.specs.declared.Device.{Device}
use Rattle.device.specs.Memory.{reading_tail}
use Rattle.sheet.specs.FirstLine.{first_line}
use Rattle.sheet.specs.Sheet.{sheet_with}
use Rattle.target.specs.Model.{Run}
use Rattle.target.specs.Step.{Target}
use Rattle.target.specs.Run.{ran}
use Rattle.print.specs.Print.{refused_text}
use Rattle.board.specs.Open.{record_of, board_number, board_reading}

-- the most steps that the program plays
abbrev pub most_steps : ℕ
most_steps = 32768

-- ---- a printed stream

-- a line of it: two capital hex digits, a tab, four of them
unfoldable pub is_step : (line : List ℕ) → Bool
is_step line =
    eqb (length line) 7 && (ltb (byte_by capital_of line 0) 256 && (eqb (get_or line 2 0) tab && ltb (word_by capital_of line 3) 65536))

-- its three bytes: code, payload low, payload high
unfoldable pub typed_bytes : (line : List ℕ) → List ℕ
typed_bytes line = byte_by capital_of line 0 ∷ word_by capital_of line 3 % 256 ∷ word_by capital_of line 3 / 256 ∷ []

-- the number of the first line that is no step, or is one too many, where the first is line k; 0 if there is none.
-- After the last LF there is a line only if anything stands there
unfoldable pub bad_from : (k : ℕ) → (lines : List (List ℕ)) → ℕ
bad_from k [] = 0
bad_from k (line ∷ rest) =
    pick (eqb (length line) 0 && eqb (length rest) 0) 0
    (pick (is_step line && leb k most_steps) (bad_from (k + 1) rest) k)

-- the bytes of the lines that are steps
unfoldable pub bytes_in : (lines : List (List ℕ)) → List ℕ
bytes_in [] = []
bytes_in (line ∷ rest) = pick (is_step line) (typed_bytes line) [] ++ bytes_in rest

unfoldable pub bad_line : (text : List ℕ) → ℕ
bad_line text = bad_from 1 (split lf text)

unfoldable pub stream_of : (text : List ℕ) → List ℕ
stream_of text = bytes_in (split lf text)

-- ---- the run, with room for a word at each step

-- a reading, and calibration words 3FFFh
unfoldable pub cells_of : (reading : List ℕ) → List ℕ
cells_of reading = reading ++ erased ∷ erased ∷ []

unfoldable pub played : Device → (reading stream : List ℕ) → Run Target
played d reading stream = ran d stream most_steps (cells_of reading) (replicate most_steps 0)

-- the sheet after the run with this ID on line 1, or the refused step's number at its line; column 1, since the whole line is to blame
unfoldable pub played_text : (id : ℕ) → Device → Run Target → List ℕ
played_text id d r =
    unless (eqb r.number 0) (refused_text r.number (r.done + 1) 1)
    (sheet_with id d (take (d.words + reading_tail) r.target.cells))

-- the board, then the printed stream, 34 at its line, of which the whole is to blame too, then the run; line 1 stays the board's
unfoldable pub trial_text : (table sheet stream : List ℕ) → List ℕ
trial_text table sheet stream =
    unless (eqb (board_number table sheet) 0) (refused_text (board_number table sheet) 0 0)
    (unless (eqb (bad_line stream) 0) (refused_text 34 (bad_line stream) 1)
    (played_text (first_line sheet).id (record_of table sheet) (played (record_of table sheet) (board_reading table sheet) (stream_of stream))))
