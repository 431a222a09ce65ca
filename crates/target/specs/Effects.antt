-- Which cells each step changes and what it makes of them, and the word that is read ('Steps of the target').
use Rattle.std.specs.Prelude.{ℕ, ◌+◌, ◌-◌, ◌/◌, ◌%◌, Bool, ◌&&◌, ◌||◌, not, List, ltb, leb, eqb, length, get_or, replicate}
use Rattle.words.specs.Choice.{pick}
use Rattle.words.specs.Word.{erased}
use Rattle.words.specs.Lists.{build, in_range}
use Rattle.device.specs.Memory.{zero_bit}
use Rattle.target.specs.Chip.{Chip}

-- every latch at 3FFFh
unfoldable pub blank : Chip → List ℕ
blank chip = replicate chip.places erased

-- CP is 0
unfoldable pub locked : Chip → List ℕ → Bool
locked chip cells = zero_bit (chip.words + chip.cp_word) chip.cp_bit cells

-- cells of which those that are hit take a new word
unfoldable pub edit : (hit : ℕ → Bool) (new : ℕ → ℕ) → List ℕ → List ℕ
edit hit new cells = build (length cells) (λ i. pick (hit i) (new i) (get_or cells i 0))

-- ---- which cells

-- a program word
unfoldable pub in_program : Chip → ℕ → Bool
in_program chip a = ltb a chip.words

-- cell i is a user ID, or a configuration word
unfoldable pub id_cell : Chip → ℕ → Bool
id_cell chip i = in_range chip.words chip.ids i

unfoldable pub config_cell : Chip → ℕ → Bool
config_cell chip i = leb chip.words i && chip.is_config (i - chip.words)

-- the counter stands at a word of configuration space at which an erase acts: those that a reading has
unfoldable pub at_erase : Chip → ℕ → Bool
at_erase chip a = in_range chip.base chip.reading_tail a

-- Row Erase: the counter's program row, unless protected; in configuration space the user IDs
unfoldable pub row_erased : Chip → ℕ → List ℕ → ℕ → Bool
row_erased chip a cells i =
    (in_program chip a && not (locked chip cells) && (in_program chip i && eqb (i / chip.row) (a / chip.row)))
    || (at_erase chip a && chip.row_erases_ids && id_cell chip i)

-- Bulk Erase: program and configuration words; the user IDs too if the counter is in configuration space
unfoldable pub bulk_erased : Chip → ℕ → ℕ → Bool
bulk_erased chip a i = in_program chip i || config_cell chip i || (at_erase chip a && id_cell chip i)

-- Begin: the counter's program words, unless protected; in configuration space the one word at the counter, if it can be written
unfoldable pub begin_written : Chip → ℕ → List ℕ → ℕ → Bool
begin_written chip a cells i =
    (in_program chip a && not (locked chip cells) && (in_program chip i && eqb (i / chip.group) (a / chip.group)))
    || (leb chip.base a && chip.is_writable (chip.cell a - chip.words) && eqb i (chip.cell a))

-- ---- what they become, and what is read

-- the latch of a cell that Begin writes: a program word's own; in configuration space the counter's
unfoldable pub latch_of : Chip → ℕ → List ℕ → ℕ → ℕ
latch_of chip a latches i = get_or latches (pick (in_program chip a) i a % chip.group) 0

unfoldable pub burnt : Chip → ℕ → (latches cells : List ℕ) → ℕ → ℕ
burnt chip a latches cells i = chip.burn i (get_or cells i 0) (latch_of chip a latches i)

-- the word at the counter; program words read 0 while protected, and so does a word that does not exist
unfoldable pub word_read : Chip → ℕ → List ℕ → ℕ
word_read chip a cells = pick (in_program chip a && locked chip cells) 0 (get_or cells (chip.cell a) 0)
