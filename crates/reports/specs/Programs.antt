-- What the programs checksum and verify print.
use Rattle.std.specs.Prelude.{ℕ, List, eqb}
use Rattle.words.specs.Choice.{unless}
use Rattle.sheet.specs.Sheet.{sheet_number, words_in}
use Rattle.judge.specs.Checksum.{checksum_of}
use Rattle.judge.specs.Verify.{ToldVerdict, verdict_of}
use Rattle.print.specs.Print.{refused_text, sum_text, verdict_text}
use Rattle.board.specs.Open.{record_of, name_of, board_number, board_reading}

-- four hex digits
unfoldable pub checksum_text : (table sheet : List ℕ) → List ℕ
checksum_text table sheet =
    unless (eqb (board_number table sheet) 0) (refused_text (board_number table sheet) 0 0)
    (sum_text (checksum_of (record_of table sheet) (board_reading table sheet)))

-- a verdict's line
unfoldable pub verdict_line : ToldVerdict → List ℕ
verdict_line v = verdict_text v.number v.address.0 v.count

-- the board's sheet, and then the wanted one, under the same record and name
unfoldable pub verify_number : (table sheet wanted : List ℕ) → ℕ
verify_number table sheet wanted =
    unless (eqb (board_number table sheet) 0) (board_number table sheet)
    (sheet_number (record_of table sheet) (name_of table sheet) wanted)

unfoldable pub verify_text : (table sheet wanted : List ℕ) → List ℕ
verify_text table sheet wanted =
    unless (eqb (verify_number table sheet wanted) 0) (refused_text (verify_number table sheet wanted) 0 0)
    (verdict_line (verdict_of (record_of table sheet) (words_in (record_of table sheet).words wanted) (board_reading table sheet)))
