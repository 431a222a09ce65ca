-- Single steps one after another, and what it is for a run to equal that many of them.
use Rattle.std.specs.Prelude.{ℕ, suc, ◌/◌, min, ◌≡◌, List, [], ◌++◌, eqb, length, take, drop}
use Rattle.words.specs.Choice.{pick}
use Rattle.device.specs.declared.Device.{Device}
use Rattle.target.specs.Chip.{chip_of}
use Rattle.target.specs.Model.{code_at, payload_at}
use Rattle.target.specs.Step.{Steps}
use Rattle.target.specs.Run.{entered, Ran}
use Rattle.target.specs.declared.Registers.{Registers}

-- how many words a step of this code reads, where it is not refused: Read reads one
unfoldable pub read_count : (code : ℕ) → ℕ
read_count code = pick (eqb code 0x04) 1 0

-- from entry, n calls for the steps of a stream, none of them refused: each on the registers and the cells that the one before left,
-- and on the part of the buffer that no word was read into yet. After them: the registers, the cells, the words read and that part
pub data Calls (d : Device) (stream cells words : List ℕ) : (n : ℕ) → Registers → (cells' got left : List ℕ) → Type 0 where
  none : Calls d stream cells words 0 (entered (chip_of d)) cells [] words
  next : {n : ℕ} {r r' : Registers} {c c' got left words' : List ℕ} → Calls d stream cells words n r c got left
      → Steps d r (code_at stream n) (payload_at stream n) left c 0 r' words' c'
      → Calls d stream cells words (suc n) r' c' (got ++ take (read_count (code_at stream n)) words') (drop (read_count (code_at stream n)) words')

-- a run's answer, words and cells are those of that many calls for a single step; where it was stopped, the call for the next step is refused so and changes nothing
pub record SameCalls (d : Device) (stream : List ℕ) (allowance : ℕ) (words cells : List ℕ) (a : Ran) (words' cells' : List ℕ) : Type 0 where
  pub registers : Registers
  pub got : List ℕ
  pub left : List ℕ
  pub calls : Calls d stream cells words a.steps registers cells' got left
  pub buffer : words' ≡ got ++ left
  pub all : a.number ≡ 0 → (a.steps ≡ min allowance (length stream / 3)) × (a.words ≡ length got)
  pub stopped : (a.number ≡ 0 → ⊥) → Steps d registers (code_at stream a.steps) (payload_at stream a.steps) left cells' a.number registers left cells'
