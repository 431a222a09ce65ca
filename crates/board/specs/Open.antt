-- A board's table and sheet, opened: 15, 14 for the sheet's first line, 16, 17, 14 for the rest, 18, 19 ('Refusal numbers', the programs; #105; #106).
use Rattle.std.specs.Prelude.{ℕ, Result, Ok, Err, List, leb, eqb}
use Rattle.std.proofs.lemmas.List.Edits.{sets}
use Rattle.words.specs.Choice.{pick, unless}
use Rattle.device.specs.declared.Device.{Device}
use Rattle.table.specs.declared.Found.{Found as Place}
use Rattle.table.specs.Table.{table_ok, table_lines, has_id, found_in, name_at}
use Rattle.sheet.specs.FirstLine.{first_line}
use Rattle.sheet.specs.Sheet.{sheet_number, words_in}
use Rattle.refusal.specs.Refusal.{number_of}
use Rattle.board.specs.declared.Unopened.{Unopened}

-- the most program words of a board that the programs serve
abbrev pub most_program : ℕ
most_program = 8192

-- the number that an opening tells: 0, or that of its refusal
abbrev pub number_told : Result Place Unopened → ℕ
number_told (Ok _) = 0
number_told (Err u) = number_of u.refusal

-- the record that the sheet's first line names
unfoldable pub record_of : (table sheet : List ℕ) → Device
record_of table sheet = (found_in table (first_line sheet).id).device

-- its name, as it stands in the table
unfoldable pub name_of : (table sheet : List ℕ) → List ℕ
name_of table sheet = name_at table (found_in table (first_line sheet).id)

-- the record and the place of its name in the table, as they are answered
abbrev pub place_of : (table sheet : List ℕ) → Place
place_of table sheet =
    record {
      device = record_of table sheet;
      name_at = (found_in table (first_line sheet).id).name_at;
      name_len = (found_in table (first_line sheet).id).name_len;
    }

-- 15, 14 for the first line, 16
unfoldable pub find_number : (table sheet : List ℕ) → ℕ
find_number table sheet =
    unless (table_ok table) 15
    (unless (eqb (first_line sheet).number 0) 14
    (unless (has_id (first_line sheet).id (table_lines table)) 16
    0))

-- 15, 14 for the first line, 16, 17
unfoldable pub open_number : (table sheet : List ℕ) → ℕ
open_number table sheet =
    unless (table_ok table) 15
    (unless (eqb (first_line sheet).number 0) 14
    (unless (has_id (first_line sheet).id (table_lines table)) 16
    (unless (leb (record_of table sheet).words most_program) 17
    0)))

-- and then 14 for the rest, 18, 19
unfoldable pub board_number : (table sheet : List ℕ) → ℕ
board_number table sheet =
    unless (eqb (open_number table sheet) 0) (open_number table sheet)
    (sheet_number (record_of table sheet) (name_of table sheet) sheet)

-- the reading of a sheet
unfoldable pub board_reading : (table sheet : List ℕ) → List ℕ
board_reading table sheet = words_in (record_of table sheet).words sheet

-- what the opening leaves of a buffer: the reading from its start on, and the rest as it was; a refusal leaves all of it
unfoldable pub opened_reading : (table sheet before : List ℕ) → List ℕ
opened_reading table sheet before = pick (eqb (board_number table sheet) 0) (sets before 0 (board_reading table sheet)) before
