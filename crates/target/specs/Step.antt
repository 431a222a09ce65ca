-- A step's code and payload, what each order does, and the call for a single step ('Steps of the target'; 13, 30, 31, 32, 33, 35).
use Rattle.std.specs.Prelude.{ℕ, ◌+◌, ◌/◌, ◌%◌, ◌≡◌, Bool, ◌&&◌, List, ltb, leb, eqb, length, get_or, set, Result, Ok, Err}
use Rattle.words.specs.Choice.{pick, unless}
use Rattle.words.specs.Word.{erased, is_word, words_of}
use Rattle.words.specs.Lists.{every}
use Rattle.words.specs.Address.{successor}
use Rattle.refusal.specs.declared.Refusal.{Refusal}
use Rattle.refusal.specs.Refusal.{number_of}
use Rattle.device.specs.declared.Device.{Device}
use Rattle.device.specs.Record.{device_ok}
use Rattle.target.specs.Chip.{Chip, chip_of}
use Rattle.target.specs.Effects.{blank, edit, row_erased, bulk_erased, begin_written, burnt, word_read}
use Rattle.target.specs.Model.{Effect, done, stops}
use Rattle.target.specs.declared.Order.{Order}
use Rattle.target.specs.declared.Order.TheVariants.{LoadConfiguration, LoadData, Read, Increment, ResetAddress, Begin, BulkErase, RowErase}
use Rattle.target.specs.declared.Registers.{Registers}

-- ---- codes and payloads

-- a step's order, or the number of its refusal
pub data Decoded : Type 0 where
  Do : Order → Decoded
  Refused : ℕ → Decoded

-- an answer of the code, so told
abbrev pub decoded_told : Result Order Refusal → Decoded
decoded_told (Ok o) = Do o
decoded_told (Err e) = Refused (number_of e)

-- a load's payload is the word times two
unfoldable pub load_ok : ℕ → Bool
load_ok payload = eqb (payload % 2) 0 && leb payload 0x7ffe

unfoldable pub load : ℕ → Order → Decoded
load payload o = unless (load_ok payload) (Refused 31) (Do o)

-- all others have 0
unfoldable pub plain : ℕ → Order → Decoded
plain payload o = unless (eqb payload 0) (Refused 31) (Do o)

-- the order that a code and a payload give, or 30 or 31
unfoldable pub decoded : (code payload : ℕ) → Decoded
decoded code payload =
    pick (eqb code 0x00) (load payload (LoadConfiguration (payload / 2)))
    (pick (eqb code 0x02) (load payload (LoadData (payload / 2)))
    (pick (eqb code 0x04) (plain payload Read)
    (pick (eqb code 0x06) (plain payload Increment)
    (pick (eqb code 0x16) (plain payload ResetAddress)
    (pick (eqb code 0x08) (plain payload Begin)
    (pick (eqb code 0x09) (plain payload BulkErase)
    (pick (eqb code 0x11) (plain payload RowErase)
    (Refused 30))))))))

-- ---- the target that steps work on

-- registers, cells, the words read and how many they are
pub record Target : Type 0 where
  pub registers : Registers
  pub cells : List ℕ
  pub words : List ℕ
  pub read : ℕ

-- where the counter stands
abbrev pub place : Target → ℕ
place t = t.registers.counter.0

-- the target with another counter, with other latches, with other cells, with one word more read
abbrev pub moved : ℕ → Target → Target
moved a t = record { registers = record { counter = record { 0 = a }; latches = t.registers.latches }; cells = t.cells; words = t.words; read = t.read }

abbrev pub latched : List ℕ → Target → Target
latched latches t = record { registers = record { counter = t.registers.counter; latches = latches }; cells = t.cells; words = t.words; read = t.read }

abbrev pub changed : List ℕ → Target → Target
changed cells t = record { registers = t.registers; cells = cells; words = t.words; read = t.read }

abbrev pub taken : ℕ → Target → Target
taken word t = record { registers = t.registers; cells = t.cells; words = set t.words t.read word; read = t.read + 1 }

-- ---- what each order does

unfoldable pub effect : Chip → Order → Target → Effect Target
effect chip (LoadConfiguration w) t = done (latched (set t.registers.latches 0 w) (moved chip.base t))
effect chip (LoadData w) t = done (latched (set t.registers.latches (place t % chip.group) w) t)
effect chip Read t = unless (ltb t.read (length t.words)) (stops 35 t) (done (taken (word_read chip (place t) t.cells) t))
effect chip Increment t = done (moved (successor chip.base (place t)) t)
effect chip ResetAddress t = done (latched (pick chip.reset_blanks (blank chip) t.registers.latches) (moved 0 t))
effect chip Begin t =
    done (latched (blank chip) (changed (edit (begin_written chip (place t) t.cells) (burnt chip (place t) t.registers.latches t.cells) t.cells) t))
effect chip BulkErase t =
    unless (ltb (place t) (chip.base + chip.reading_tail)) (stops 33 t) (done (changed (edit (bulk_erased chip (place t)) (λ i. erased) t.cells) t))
effect chip RowErase t = done (changed (edit (row_erased chip (place t) t.cells) (λ i. erased) t.cells) t)

-- what a step does: nothing, with its number, if its code or payload is refused
unfoldable pub step_effect : Chip → Decoded → Target → Effect Target
step_effect chip (Do o) t = effect chip o t
step_effect chip (Refused n) t = stops n t

-- ---- the call for a single step: 13, 32, then the step's own refusal

-- the cells are words, as many as the chip has, and so are the latches that count
unfoldable pub sound_cells : Chip → List ℕ → Bool
sound_cells chip cells = words_of (chip.words + chip.cells_tail) cells

unfoldable pub sound_latches : Chip → List ℕ → Bool
sound_latches chip latches = every chip.group (λ i. is_word (get_or latches i 0))

unfoldable pub stepped : Device → (code payload : ℕ) → Target → Effect Target
stepped d code payload t =
    unless (device_ok d) (stops 13 t)
    (unless (sound_cells (chip_of d) t.cells) (stops 32 t)
    (unless (sound_latches (chip_of d) t.registers.latches) (stops 32 t)
    (step_effect (chip_of d) (decoded code payload) t)))

-- a target with no word read yet
unfoldable pub unread : Registers → (cells words : List ℕ) → Target
unread r cells words = record { registers = r; cells = cells; words = words; read = 0 }

-- what a single step promises: its number, the registers, the words read and the cells afterwards
pub record Steps (d : Device) (r : Registers) (code payload : ℕ) (words cells : List ℕ) (number : ℕ) (r' : Registers) (words' cells' : List ℕ) : Type 0 where
  pub answers : number ≡ (stepped d code payload (unread r cells words)).number
  pub registers : r' ≡ (stepped d code payload (unread r cells words)).target.registers
  pub words_read : words' ≡ (stepped d code payload (unread r cells words)).target.words
  pub cells_left : cells' ≡ (stepped d code payload (unread r cells words)).target.cells
