-- A board of the code as a target, and what a part of the code does to it.
use Rattle.std.specs.Prelude.{ℕ, ◌≡◌}
use Rattle.device.specs.LawsRecord.{Rules}
use Rattle.target.specs.Chip.{Chip, chip_of}
use Rattle.target.specs.Model.{Effect, stops}
use Rattle.target.specs.Step.{Target}
use Rattle.target.specs.LawsChip.{SoundChip, sound_chip}
use Rattle.target.specs.declared.board.Board.{Board}

abbrev pub chip_at : Board → Chip
chip_at b = chip_of b.sound.device

abbrev pub target_of : Board → Target
target_of b = record { registers = b.registers; cells = b.cells.now; words = b.words.now; read = b.read }

-- the code answers this number and leaves this board: that is just this effect, and the buffers are the same that were lent
pub record Leaves (e : Effect Target) (b : Board) (number : ℕ) (b' : Board) : Type 0 where
  pub whole : stops number (target_of b') ≡ e
  pub device : b'.sound.device ≡ b.sound.device
  pub words : b'.words.ghost_name ≡ b.words.ghost_name
  pub cells : b'.cells.ghost_name ≡ b.cells.ghost_name

-- the rules of its device record
pub rules_at : (b : Board) → Rules b.sound.device
rules_at b = b.sound.rules

pub sound_at : (b : Board) → SoundChip (chip_at b)
sound_at b = sound_chip b.sound.device (rules_at b)

pub leaves : (e : Effect Target) (b : Board) (number : ℕ) (b' : Board) → stops number (target_of b') ≡ e → b'.sound.device ≡ b.sound.device → b'.words.ghost_name ≡ b.words.ghost_name
    → b'.cells.ghost_name ≡ b.cells.ghost_name → Leaves e b number b'
leaves e b number b' whole device words cells = record { whole = whole; device = device; words = words; cells = cells }
