-- What a stream is to leave on a board, and where that differs from what the board holds, and rises over it ('The three streams').
-- A fresh programming has no reading: its list is empty, and past its end a reading is 3FFFh.
use Rattle.std.specs.Prelude.{ℕ, zero, suc, ◌+◌, ◌*◌, Bool, false, ◌&&◌, ◌||◌, not, List, ltb, eqb, get_or}
use Rattle.std.specs.Int.Bits.{bit_and}
use Rattle.words.specs.Choice.{pick}
use Rattle.words.specs.Word.{erased, not_given, under_mask}
use Rattle.device.specs.declared.Device.{Device}
use Rattle.device.specs.Memory.{mask_at}
use Rattle.target.specs.Chip.{Chip}

-- the reading's word (update), or 3FFFh (fresh)
unfoldable pub known : (reading : List ℕ) → ℕ → ℕ
known reading i = get_or reading i erased

-- the image's word where given, in the bits that the word has; elsewhere the known one
unfoldable pub wanted : Device → (image reading : List ℕ) → ℕ → ℕ
wanted d image reading i =
    pick (eqb (get_or image i not_given) not_given) (known reading i) (under_mask (mask_at d i) (get_or image i not_given) (known reading i))

-- ---- where wanted words are other than known ones, on any chip

unfoldable pub differs : (word old : ℕ → ℕ) → ℕ → Bool
differs word old i = not (eqb (word i) (old i))

-- a word wants no bit 1 where another has 0, so that it can be written over it
unfoldable pub only_clears : (wanted other : ℕ) → Bool
only_clears wanted other = eqb (bit_and other wanted) wanted

-- a wanted word has a bit 1 where the known one has 0
unfoldable pub rises : (word old : ℕ → ℕ) → ℕ → Bool
rises word old i = not (only_clears (word i) (old i))

-- the test holds at one of 0 to n-1
unfoldable pub some : ℕ → (ℕ → Bool) → Bool
some zero f = false
some (suc n) f = some n f || f n

-- some word of program row k differs
unfoldable pub row_differs : Chip → (word old : ℕ → ℕ) → ℕ → Bool
row_differs chip word old k = some chip.row (λ j. differs word old (k * chip.row + j))

-- some word of program row k rises
unfoldable pub row_rises : Chip → (word old : ℕ → ℕ) → ℕ → Bool
row_rises chip word old k = some chip.row (λ j. rises word old (k * chip.row + j))

-- some user ID differs
unfoldable pub id_differs : Chip → (word old : ℕ → ℕ) → Bool
id_differs chip word old = some chip.ids (λ j. differs word old (chip.words + j))

-- some user ID rises
unfoldable pub id_rises : Chip → (word old : ℕ → ℕ) → Bool
id_rises chip word old = some chip.ids (λ j. rises word old (chip.words + j))

-- the words of configuration space that are written: user IDs, all of them or those that differ, and configuration words that differ
unfoldable pub config_writes : Chip → (word old : ℕ → ℕ) → (all_ids : Bool) → ℕ → Bool
config_writes chip word old all_ids k =
    (ltb k chip.ids && (all_ids || differs word old (chip.words + k)))
    || (chip.is_config k && differs word old (chip.words + k))
