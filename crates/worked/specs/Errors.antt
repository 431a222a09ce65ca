-- The paper's 'Errors that look right', each as a stream or as cells that such an error would give, on TINY.
use Rattle.std.specs.Prelude.{ℕ, ◌/◌, List, [], ◌∷◌, ◌++◌, set, replicate}
use Rattle.words.specs.Word.{erased}
use Rattle.device.specs.declared.Device.{Device}
use Rattle.aim.specs.Wanted.{wanted}
use Rattle.plan.specs.Steps.{Task, rows_from, config_steps, update_task}
use Rattle.target.specs.Chip.{chip_of}
use Rattle.target.specs.declared.Order.{Order}
use Rattle.target.specs.declared.Order.TheVariants.{ResetAddress, Increment}
use Rattle.worked.specs.Cases.{blank_tiny, no_image, loads_from}

-- the cells of a board, calibration words 3FFFh
abbrev pub board_cells : (reading : List ℕ) → List ℕ
board_cells reading = reading ++ (erased ∷ erased ∷ [])

-- the rows of a task, with these words
unfoldable pub rows_of : Device → (word : ℕ → ℕ) → Task → List Order
rows_of d word t = ResetAddress ∷ rows_from (chip_of d) t.erase_row word t.rows (d.words / d.row) 0 0

unfoldable pub config_of : Device → Task → List Order
config_of d t = config_steps (chip_of d) t.erase_ids t.word t.writes

-- ---- writing 3FFFh, in an update, where the file is silent

-- the rows that an update writes, with 3FFFh for each word that is not given
unfoldable pub blank_where_silent : Device → (image reading : List ℕ) → List Order
blank_where_silent d image reading = rows_of d (wanted d image []) (update_task d image reading)

-- word 0003h is given with a bit that the board has not there, so that its row is erased, and the board has 0123h at 0002h
abbrev pub silent_image : List ℕ
silent_image = set no_image 3 0x1234

abbrev pub silent_board : List ℕ
silent_board = set (set blank_tiny 2 0x0123) 3 0x1200

-- ---- setting CP before the last program row is written

-- an update's segments, those of configuration space first
unfoldable pub config_first : Device → (image reading : List ℕ) → List Order
config_first d image reading = config_of d (update_task d image reading) ++ rows_of d (wanted d image reading) (update_task d image reading)

-- word 0003h is given, and 8007h with CP = 0
abbrev pub protecting_image : List ℕ
protecting_image = set (set no_image 3 0x1234) 23 0x3f7f

-- ---- taking the row from the first loaded word and not from the counter at Begin

-- loads at 0002h to 0009h, Begin at 0009h
unfoldable pub across_two : List Order
across_two = Increment ∷ Increment ∷ loads_from 0x102 8

-- the row of the first loaded word written, from 0000h on
abbrev pub first_row_written : List ℕ
first_row_written = 0x108 ∷ 0x109 ∷ 0x102 ∷ 0x103 ∷ 0x104 ∷ 0x105 ∷ 0x106 ∷ 0x107 ∷ (replicate 12 erased ++ (erased ∷ 0x2000 ∷ 0x2a00 ∷ erased ∷ erased ∷ erased ∷ erased ∷ []))
