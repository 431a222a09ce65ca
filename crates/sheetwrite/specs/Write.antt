-- The sheet writers, one for each form ('Sheets'; refusals 13, 21, 26; #106). Text is a list of bytes.
use Rattle.std.specs.Prelude.{ℕ, ◌+◌, Result, ◌&&◌, List, leb, eqb, length}
use Rattle.std.proofs.lemmas.List.Edits.{sets}
use Rattle.words.specs.Choice.{pick, unless}
use Rattle.device.specs.declared.Device.{Device}
use Rattle.device.specs.Record.{device_ok}
use Rattle.device.specs.Memory.{reading_ok}
use Rattle.table.specs.Table.{name_ok}
use Rattle.judge.specs.Checksum.{checksum_of}
use Rattle.sheet.specs.Sheet.{sheet_with, new_with, body_length}
use Rattle.refusal.specs.Refusal.{number_in, value_in}
use Rattle.refusal.specs.declared.Refusal.{Refusal}

-- how an answer is told: the length of the sheet that was written, or the number of a refusal and nothing else
pub record Written : Type 0 where
  pub number : ℕ
  pub length : ℕ

abbrev pub written_told : Result ℕ Refusal → Written
written_told answer = record { number = number_in answer; length = value_in 0 answer }

-- ---- the old form, with the record's ID

unfoldable pub sheet_text : Device → List ℕ → List ℕ
sheet_text d l = sheet_with d.id d l

-- its length
unfoldable pub sheet_length : Device → ℕ
sheet_length d = 5 + body_length d.words

-- the writer: 13, 21, 26
unfoldable pub written : Device → (reading out : List ℕ) → Written
written d l out =
    unless (device_ok d) (record { number = 13; length = 0 })
    (unless (reading_ok d.words l) (record { number = 21; length = 0 })
    (unless (leb (sheet_length d) (length out)) (record { number = 26; length = 0 })
    (record { number = 0; length = sheet_length d })))

-- bytes past the sheet stay, and a refusal writes nothing
unfoldable pub written_text : Device → (reading out : List ℕ) → List ℕ
written_text d l out = pick (eqb (written d l out).number 0) (sets out 0 (sheet_text d l)) out

-- ---- the new form, with the record's ID and the checksum of the words

unfoldable pub new_text : Device → (name reading : List ℕ) → List ℕ
new_text d name l = new_with d.id name (checksum_of d l) d l

-- its length
unfoldable pub new_length : Device → (name : List ℕ) → ℕ
new_length d name = 11 + length name + body_length d.words

-- the writer: 13, 21, 26
unfoldable pub new_written : Device → (name reading out : List ℕ) → Written
new_written d name l out =
    unless (device_ok d && name_ok name) (record { number = 13; length = 0 })
    (unless (reading_ok d.words l) (record { number = 21; length = 0 })
    (unless (leb (new_length d name) (length out)) (record { number = 26; length = 0 })
    (record { number = 0; length = new_length d name })))

-- bytes past the sheet stay, and a refusal writes nothing
unfoldable pub new_written_text : Device → (name reading out : List ℕ) → List ℕ
new_written_text d name l out = pick (eqb (new_written d name l out).number 0) (sets out 0 (new_text d name l)) out
