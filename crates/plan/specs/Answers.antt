-- What the planners answer and write ('Refusal numbers': 13, 26, and what stops an update or a fresh programming before).
use Rattle.std.specs.Prelude.{ℕ, ◌*◌, ◌≡◌, List, Result, Ok, Err, leb, eqb, length}
use Rattle.std.proofs.lemmas.List.Edits.{sets}
use Rattle.words.specs.Choice.{pick, unless}
use Rattle.refusal.specs.Refusal.{number_of}
use Rattle.refusal.specs.declared.Refusal.{Refusal}
use Rattle.device.specs.declared.Device.{Device}
use Rattle.device.specs.Record.{device_ok}
use Rattle.target.specs.declared.Order.{Order}
use Rattle.target.specs.Stream.{bytes_of}

-- what a read-back is refused with, room apart
unfoldable pub read_back_number : Device → ℕ
read_back_number d = unless (device_ok d) 13 0

-- the number of steps that were written; or a refusal's number, and 0
pub record Planned : Type 0 where
  pub number : ℕ
  pub steps : ℕ

-- an answer of the code, so told
abbrev pub planned_told : Result ℕ Refusal → Planned
planned_told (Ok steps) = record { number = 0; steps = steps }
planned_told (Err e) = record { number = number_of e; steps = 0 }

-- ---- a plan: a refusal, 26 for a buffer that is too short, or the number of steps

unfoldable pub planned : (number : ℕ) → List Order → (out : List ℕ) → Planned
planned number steps out =
    unless (eqb number 0) (record { number = number; steps = 0 })
    (unless (leb (3 * length steps) (length out)) (record { number = 26; steps = 0 })
    (record { number = 0; steps = length steps }))

-- bytes past the stream stay, and a refusal writes nothing
unfoldable pub planned_out : (number : ℕ) → List Order → (out : List ℕ) → List ℕ
planned_out number steps out = pick (eqb (planned number steps out).number 0) (sets out 0 (bytes_of steps)) out

-- what the three calls promise: the answer, and the buffer afterwards
pub record Plans (number : ℕ) (steps : List Order) (out : List ℕ) (r : Planned) (out' : List ℕ) : Type 0 where
  pub answers : r ≡ planned number steps out
  pub written : out' ≡ planned_out number steps out
