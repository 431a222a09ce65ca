-- The three lists of words ('Memory of the target'): entry i below P is program word i, and entry P+k is word 8000h+k.
use Rattle.std.specs.Prelude.{ℕ, ◌+◌, ◌-◌, Bool, ◌&&◌, ◌||◌, List, ltb, eqb, length, get_or}
use Rattle.words.specs.Choice.{pick}
use Rattle.words.specs.Word.{erased, not_given, is_word, bit, words_of}
use Rattle.words.specs.Lists.{every, in_range}
use Rattle.device.specs.declared.Device.{Device}

-- ---- places

-- a reading has the words to 8008h, the cells have the two calibration words too
abbrev pub reading_tail : ℕ
reading_tail = 9

abbrev pub cells_tail : ℕ
cells_tail = 11

-- the user IDs are the first four words of configuration space, the device ID is its word 6
abbrev pub ids : ℕ
ids = 4

abbrev pub device_id : ℕ
device_id = 6

-- CP is bit 7 of its word 7
abbrev pub cp_word : ℕ
cp_word = 7

abbrev pub cp_bit : ℕ
cp_bit = 7

-- word k of configuration space is one of the two configuration words
unfoldable pub is_config : ℕ → Bool
is_config k = in_range 7 2 k

-- entry i is a program word, a user ID or a configuration word
unfoldable pub programmable : (words i : ℕ) → Bool
programmable words i = ltb i words || ltb (i - words) ids || is_config (i - words)

-- ---- masks: which bits entry i has

-- configuration words have those of their masks, every other word has all
unfoldable pub mask_at : Device → ℕ → ℕ
mask_at d i = pick (eqb i (d.words + 7)) d.mask1 (pick (eqb i (d.words + 8)) d.mask2 erased)

-- ---- lists

-- P+9 words
unfoldable pub reading_ok : (words : ℕ) → List ℕ → Bool
reading_ok words l = words_of (words + reading_tail) l

-- an image's entry is 'not given', or a word of those that may be given
unfoldable pub entry_ok : (words i entry : ℕ) → Bool
entry_ok words i entry = eqb entry not_given || (is_word entry && programmable words i)

-- P+9 such entries
unfoldable pub image_ok : (words : ℕ) → List ℕ → Bool
image_ok words l = eqb (length l) (words + reading_tail) && every (words + reading_tail) (λ i. entry_ok words i (get_or l i 0))

-- ---- code protection

-- a bit of entry i is 0
unfoldable pub zero_bit : (i at : ℕ) → List ℕ → Bool
zero_bit i at l = eqb (bit (get_or l i 0) at) 0

-- CP is 0
unfoldable pub protected : (words : ℕ) → List ℕ → Bool
protected words l = zero_bit (words + cp_word) cp_bit l
