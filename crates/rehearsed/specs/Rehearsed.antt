-- What the theorems on texts speak of: a text that is a refusal, what a printed stream leaves on a board, and the words that a run has answered.
use Rattle.std.specs.Prelude.{ℕ, ◌+◌, ◌≡◌, Bool, true, List, eqb, get_or, take}
use Rattle.device.specs.declared.Device.{Device}
use Rattle.device.specs.Memory.{reading_tail}
use Rattle.sheet.specs.Sheet.{sheet_with}
use Rattle.target.specs.Chip.{chip_of}
use Rattle.target.specs.Model.{Run}
use Rattle.target.specs.Step.{Target, sound_cells}
use Rattle.target.specs.Run.{model_of, ran}
use Rattle.target.specs.Cut.{Recovers}
use Rattle.trials.specs.Trial.{stream_of}
use Rattle.gathers.specs.Gather.{answer_text}

-- the first byte is the r of 'refused', where a stream and a sheet have a capital hex digit
unfoldable pub is_refusal : (text : List ℕ) → Bool
is_refusal text = eqb (get_or text 0 0) 0x72

-- on a board with these cells, a whole run of the printed stream leaves cells whose sheet with this ID on line 1 is this text, whatever cut runs of it came before
pub record Leaves (id : ℕ) (d : Device) (stream cells sheet : List ℕ) : Type 0 where
  pub last : List ℕ
  pub last_sound : sound_cells (chip_of d) last ≡ true
  pub recovers : Recovers (model_of d) (stream_of stream) cells last
  pub sheet_is : sheet_with id d (take (d.words + reading_tail) last) ≡ sheet

-- the cells that a run of a printed stream leaves, where it may take so many steps and has this buffer for words read
unfoldable pub cells_left : Device → (stream cells : List ℕ) → (steps : ℕ) → (buffer : List ℕ) → List ℕ
cells_left d stream cells steps buffer = (ran d (stream_of stream) steps cells buffer).target.cells

-- the words that a run has read, in the order in which it read them
unfoldable pub answers_of : Run Target → List ℕ
answers_of r = take r.target.read r.target.words

-- the words that such a run answers, a word a line
unfoldable pub words_text : Device → (stream cells : List ℕ) → (steps : ℕ) → (buffer : List ℕ) → List ℕ
words_text d stream cells steps buffer = answer_text (answers_of (ran d (stream_of stream) steps cells buffer))
