-- How records and answers cross to C: a record as six numbers in a row, an answer as its number and the values stored beside it.
use Rattle.std.specs.Prelude.{ℕ, ◌≡◌, List, [], ◌∷◌, get_or}
use Rattle.device.specs.declared.Device.{Device}
use Rattle.table.specs.Table.{Found}
use Rattle.judge.specs.Checksum.{Sum}
use Rattle.judge.specs.Verify.{ToldVerdict}
use Rattle.sheet.specs.FirstLine.{Line1}
use Rattle.sheetwrite.specs.Write.{Written}
use Rattle.hexread.specs.Reader.{ReadHex}
use Rattle.hexwrite.specs.Writer.{WrittenHex}
use Rattle.target.specs.Run.{Ran}
use Rattle.plan.specs.Answers.{Planned}

-- the record of six numbers: ID, program words, row words, masks 1 and 2, and the ID's mask
abbrev pub device_at : List ℕ → Device
device_at l = record { id = get_or l 0 0; words = get_or l 1 0; row = get_or l 2 0; mask1 = get_or l 3 0; mask2 = get_or l 4 0; idmask = get_or l 5 0 }

-- the six numbers of a record, in the same order
abbrev pub numbers_of : Device → List ℕ
numbers_of d = d.id ∷ d.words ∷ d.row ∷ d.mask1 ∷ d.mask2 ∷ d.idmask ∷ []

-- ---- the answers, put together again

abbrev pub sum_answer : (number sum : ℕ) → Sum
sum_answer number sum = record { number = number; sum = sum }

abbrev pub verdict_answer : (number address count : ℕ) → ToldVerdict
verdict_answer number address count = record { number = number; address = record { 0 = address }; count = count }

abbrev pub id_answer : (number id : ℕ) → Line1
id_answer number id = record { number = number; id = id }

abbrev pub sheet_answer : (number length : ℕ) → Written
sheet_answer number length = record { number = number; length = length }

abbrev pub hex_outcome : (number line column : ℕ) → ReadHex
hex_outcome number line column = record { number = number; line = line; column = column }

abbrev pub hex_answer : (number length : ℕ) → WrittenHex
hex_answer number length = record { number = number; length = length }

abbrev pub run_answer : (number steps words : ℕ) → Ran
run_answer number steps words = record { number = number; steps = steps; words = words }

abbrev pub plan_answer : (number steps : ℕ) → Planned
plan_answer number steps = record { number = number; steps = steps }

-- the answer of a search of the table: each value stands where the caller says
pub record Finds (found : Found) (number : ℕ) (numbers : List ℕ) (name_at name_len : ℕ) : Type 0 where
  pub answers : number ≡ found.number
  pub device : numbers ≡ numbers_of found.device
  pub name_at_lem : name_at ≡ found.name_at
  pub name_len_lem : name_len ≡ found.name_len
