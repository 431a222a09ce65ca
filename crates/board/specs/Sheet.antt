-- The sheet of a reading with another ID on line 1, as a program prints it: 13, 21, or 26 for one that is longer than any of a board that the programs serve.
use Rattle.std.specs.Prelude.{ℕ, List, leb, eqb}
use Rattle.words.specs.Choice.{unless}
use Rattle.device.specs.declared.Device.{Device}
use Rattle.device.specs.Record.{device_ok}
use Rattle.device.specs.Memory.{reading_ok}
use Rattle.device.specs.LawsId.{with_id}
use Rattle.sheet.specs.Sheet.{sheet_with}
use Rattle.sheetwrite.specs.Write.{sheet_length}
use Rattle.print.specs.Print.{refused_text}

-- the length of the longest of them
abbrev pub most_sheet : ℕ
most_sheet = 46135

unfoldable pub sheet_refusal : Device → (id : ℕ) (reading : List ℕ) → ℕ
sheet_refusal d id reading =
    unless (device_ok (with_id d id)) 13
    (unless (reading_ok d.words reading) 21
    (unless (leb (sheet_length (with_id d id)) most_sheet) 26
    0))

unfoldable pub printed_sheet : Device → (id : ℕ) (reading : List ℕ) → List ℕ
printed_sheet d id reading =
    unless (eqb (sheet_refusal d id reading) 0) (refused_text (sheet_refusal d id reading) 0 0)
    (sheet_with id d reading)
