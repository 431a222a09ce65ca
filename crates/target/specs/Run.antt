-- A run of this family's model, and the call for it (13, 32, 34, then each step's own refusal).
use Rattle.std.specs.Prelude.{ℕ, ◌%◌, ◌≡◌, List, eqb, length, Result, Ok, Err}
use Rattle.words.specs.Choice.{pick, unless}
use Rattle.refusal.specs.Refusal.{number_of}
use Rattle.device.specs.declared.Device.{Device}
use Rattle.device.specs.Record.{device_ok}
use Rattle.target.specs.Chip.{Chip, chip_of}
use Rattle.target.specs.Effects.{blank}
use Rattle.target.specs.Model.{Model, Run, run_of}
use Rattle.target.specs.Step.{Target, step_effect, decoded, unread, sound_cells}
use Rattle.target.specs.declared.Registers.{Registers}
use Rattle.target.specs.declared.Ran as code
use Rattle.target.specs.declared.Stopped.{Stopped}

-- entry: the counter at 0 and every latch at 3FFFh
unfoldable pub entered : Chip → Registers
entered chip = record { counter = record { 0 = 0 }; latches = blank chip }

-- what stops a run before its first step
unfoldable pub run_refusal : Device → (stream cells : List ℕ) → ℕ
run_refusal d stream cells =
    unless (device_ok d) 13
    (unless (sound_cells (chip_of d) cells) 32
    (unless (eqb (length stream % 3) 0) 34
    0))

-- a model of any chip, for runs that something judges
abbrev pub model_on : Chip → (judges : (stream cells : List ℕ) → ℕ) → Model
model_on chip judges =
    record {
      Target = Target;
      cells = λ t. t.cells;
      entry = λ cells words. unread (entered chip) cells words;
      judges = judges;
      step = λ code payload t. step_effect chip (decoded code payload) t;
    }

-- this family's
abbrev pub model_of : Device → Model
model_of d = model_on (chip_of d) (run_refusal d)

unfoldable pub ran : Device → (stream : List ℕ) → (allowance : ℕ) → (cells words : List ℕ) → Run Target
ran d stream allowance cells words = run_of (model_of d) stream allowance cells words

-- what a run answers: 0 or the refusal that stopped it, the steps completed, and how many words were read, 0 with a refusal
pub record Ran : Type 0 where
  pub number : ℕ
  pub steps : ℕ
  pub words : ℕ

-- an answer of the code, so told
abbrev pub ran_told : Result code.Ran Stopped → Ran
ran_told (Ok r) = record { number = 0; steps = r.steps; words = r.words }
ran_told (Err s) = record { number = number_of s.refusal; steps = s.steps; words = 0 }

-- what the call answers: the number, the steps completed and, without refusal, how many words were read
unfoldable pub answered : Run Target → Ran
answered r = record { number = r.number; steps = r.done; words = pick (eqb r.number 0) r.target.read 0 }

-- what a run promises: its answer, the words read and the cells afterwards
pub record Runs (d : Device) (stream : List ℕ) (allowance : ℕ) (words cells : List ℕ) (a : Ran) (words' cells' : List ℕ) : Type 0 where
  pub answers : a ≡ answered (ran d stream allowance cells words)
  pub words_read : words' ≡ (ran d stream allowance cells words).target.words
  pub cells_left : cells' ≡ (ran d stream allowance cells words).target.cells
