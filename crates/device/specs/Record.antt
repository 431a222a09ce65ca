-- The device record and its rules ('The device table'; refusal 13), and which ID words fit it (#107).
use Rattle.std.specs.Prelude.{ℕ, ◌%◌, Bool, ◌&&◌, ◌||◌, leb, eqb}
use Rattle.std.specs.Int.Bits.{bit_and}
use Rattle.words.specs.Choice.{unless}
use Rattle.words.specs.Word.{is_word, bit}
use Rattle.device.specs.declared.Device.{Device}

-- the most program words that a device may have
abbrev pub most_words : ℕ
most_words = 32768

-- R is 8, 16 or 32
unfoldable pub row_ok : ℕ → Bool
row_ok row = eqb row 8 || eqb row 16 || eqb row 32

-- P is a multiple of R, from R to the most
unfoldable pub words_up_to : (most words row : ℕ) → Bool
words_up_to most words row = eqb (words % row) 0 && leb row words && leb words most

-- a record with so many program words at most: ID and masks have 14 bits, and mask 1 has bit 7
unfoldable pub device_up_to : (most : ℕ) → Device → Bool
device_up_to most d =
    row_ok d.row
    && words_up_to most d.words d.row
    && is_word d.id
    && is_word d.mask1
    && is_word d.mask2
    && is_word d.idmask
    && eqb (bit d.mask1 7) 1

-- a record that keeps the rules
unfoldable pub device_ok : Device → Bool
device_ok d = device_up_to most_words d

-- a word fits a device if it equals the ID in every bit of the mask
unfoldable pub fits : Device → ℕ → Bool
fits d w = is_word w && eqb (bit_and w d.idmask) (bit_and d.id d.idmask)

-- what the call that judges a record answers
unfoldable pub record_number : Device → ℕ
record_number d = unless (device_ok d) 13 0
