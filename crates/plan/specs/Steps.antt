-- The three streams as lists of orders ('The three streams'), made of segments, on any chip.
use Rattle.std.specs.Prelude.{ℕ, zero, suc, ◌+◌, ◌-◌, ◌*◌, ◌/◌, Bool, true, false, List, [], ◌∷◌, ◌++◌, replicate}
use Rattle.words.specs.Choice.{pick}
use Rattle.words.specs.Word.{erased}
use Rattle.device.specs.declared.Device.{Device}
use Rattle.target.specs.Chip.{Chip, chip_of}
use Rattle.target.specs.declared.Order.{Order}
use Rattle.target.specs.declared.Order.TheVariants.{LoadConfiguration, LoadData, Read, Increment, ResetAddress, Begin, BulkErase, RowErase}
use Rattle.aim.specs.Wanted.{known, wanted, some, row_differs, row_rises, id_differs, id_rises, config_writes}

-- ---- segments

-- Increments from one place up to another
unfoldable pub walk : (from to : ℕ) → List Order
walk from to = replicate (to - from) Increment

-- n words loaded from word i on, with an Increment between each two
unfoldable pub loads : (word : ℕ → ℕ) → (i n : ℕ) → List Order
loads word i zero = []
loads word i (suc zero) = LoadData (word i) ∷ []
loads word i (suc (suc n)) = LoadData (word i) ∷ Increment ∷ loads word (i + 1) (suc n)

-- n latch sets from word i on, each loaded and written, with an Increment between each two
unfoldable pub set_steps : Chip → (word : ℕ → ℕ) → (i n : ℕ) → List Order
set_steps chip word i zero = []
set_steps chip word i (suc zero) = loads word i chip.group ++ Begin ∷ []
set_steps chip word i (suc (suc n)) = loads word i chip.group ++ (Begin ∷ Increment ∷ set_steps chip word (i + chip.group) (suc n))

-- Row Erase where it is asked for
unfoldable pub erasing : Bool → List Order
erasing true = RowErase ∷ []
erasing false = []

-- a row: up to its first word, erase, load and write
unfoldable pub row_steps : Chip → (erase : Bool) → (word : ℕ → ℕ) → (at first : ℕ) → List Order
row_steps chip erase word at first = walk at first ++ (erasing erase ++ set_steps chip word first chip.sets)

-- n rows from row k on, ascending, each that is chosen; the counter stands at `at`, after a row at the row's last word
unfoldable pub rows_from : Chip → (erase : ℕ → Bool) → (word : ℕ → ℕ) → (chosen : ℕ → Bool) → (n k at : ℕ) → List Order
rows_from chip erase word chosen zero k at = []
rows_from chip erase word chosen (suc n) k at =
    pick (chosen k)
    (row_steps chip (erase k) word at (k * chip.row) ++ rows_from chip erase word chosen n (k + 1) (k * chip.row + (chip.row - 1)))
    (rows_from chip erase word chosen n (k + 1) at)

-- a word of configuration space: up to it, load, Begin
unfoldable pub word_steps : (word at k : ℕ) → List Order
word_steps word at k = walk at k ++ (LoadData word ∷ Begin ∷ [])

-- n words of configuration space from word k on, each that is chosen; the counter stands at word `at`
unfoldable pub writes_from : (word : ℕ → ℕ) → (chosen : ℕ → Bool) → (n k at : ℕ) → List Order
writes_from word chosen zero k at = []
writes_from word chosen (suc n) k at =
    pick (chosen k) (word_steps (word k) at k ++ writes_from word chosen n (k + 1) k) (writes_from word chosen n (k + 1) at)

-- the words of configuration space, if any is chosen: Load Configuration of 3FFFh, erase, and each that is chosen
unfoldable pub config_steps : Chip → (erase : Bool) → (word : ℕ → ℕ) → (chosen : ℕ → Bool) → List Order
config_steps chip erase word chosen =
    pick (some chip.reading_tail chosen)
    (LoadConfiguration erased ∷ (erasing erase ++ writes_from (λ k. word (chip.words + k)) chosen chip.reading_tail 0 0))
    []

-- ---- one body for both streams

-- the word that each cell is to hold; the program rows that are written, and those that are erased first;
-- the words of configuration space that are written, and whether the user IDs are erased first
pub record Task : Type 0 where
  pub word : ℕ → ℕ
  pub rows : ℕ → Bool
  pub erase_row : ℕ → Bool
  pub writes : ℕ → Bool
  pub erase_ids : Bool

-- rows, and then configuration space
unfoldable pub body_of : Chip → Task → List Order
body_of chip t =
    rows_from chip t.erase_row t.word t.rows (chip.words / chip.row) 0 0
    ++ config_steps chip t.erase_ids t.word t.writes

-- what differs is written; which rows are erased, whether the user IDs are, and whether all of them are written, is given
unfoldable pub task_of : Chip → (word old : ℕ → ℕ) → (erase_row : ℕ → Bool) → (erase_ids all_ids : Bool) → Task
task_of chip word old erase_row erase_ids all_ids =
    record {
      word = word;
      rows = row_differs chip word old;
      erase_row = erase_row;
      writes = config_writes chip word old all_ids;
      erase_ids = erase_ids;
    }

-- ---- the streams

-- a row that is written is erased if a word of it rises, the user IDs if one of them does; if one user ID differs, all are written
unfoldable pub update_task : Device → (image reading : List ℕ) → Task
update_task d image reading =
    task_of (chip_of d) (wanted d image reading) (known reading)
    (row_rises (chip_of d) (wanted d image reading) (known reading))
    (id_rises (chip_of d) (wanted d image reading) (known reading))
    (id_differs (chip_of d) (wanted d image reading) (known reading))

unfoldable pub update_steps : Device → (image reading : List ℕ) → List Order
update_steps d image reading = ResetAddress ∷ body_of (chip_of d) (update_task d image reading)

-- nothing is erased by row
unfoldable pub fresh_task : Device → (image : List ℕ) → Task
fresh_task d image = task_of (chip_of d) (wanted d image []) (known []) (λ k. false) false false

unfoldable pub fresh_steps : Device → (image : List ℕ) → List Order
fresh_steps d image = LoadConfiguration erased ∷ BulkErase ∷ ResetAddress ∷ body_of (chip_of d) (fresh_task d image)

-- n words read, with an Increment between each two
unfoldable pub reads : ℕ → List Order
reads zero = []
reads (suc zero) = Read ∷ []
reads (suc (suc n)) = Read ∷ Increment ∷ reads (suc n)

unfoldable pub read_steps : Chip → List Order
read_steps chip = ResetAddress ∷ (reads chip.words ++ LoadConfiguration erased ∷ reads chip.reading_tail)

unfoldable pub read_back_steps : Device → List Order
read_back_steps d = read_steps (chip_of d)
