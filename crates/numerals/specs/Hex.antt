-- Hex digits and their text ('HEX text', 'Sheets', 'The device table'). Text is a list of bytes, and past its end a list
-- reads 0, which is no digit.
use Rattle.std.specs.Prelude.{ℕ, true, false, ◌+◌, ◌-◌, ◌*◌, ◌/◌, ◌%◌, Bool, ◌&&◌, List, [], ◌∷◌, ◌++◌, ltb, leb, get_or}
use Rattle.words.specs.Choice.{pick}

-- from the character a to the character b
unfoldable pub within : (a b c : ℕ) → Bool
within a b c = leb a c && leb c b

-- the value of a hex digit of either case; 16 for any other character
unfoldable pub digit_of : ℕ → ℕ
digit_of c =
    pick (within 0x30 0x39 c) (c - 0x30)
    (pick (within 0x41 0x46 c) (c - 0x41 + 10)
    (pick (within 0x61 0x66 c) (c - 0x61 + 10)
    16))

-- the value of a digit 0-9 or a capital A-F; 16 for any other character
unfoldable pub capital_of : ℕ → ℕ
capital_of c =
    pick (within 0x30 0x39 c) (c - 0x30)
    (pick (within 0x41 0x46 c) (c - 0x41 + 10)
    16)

-- the two readings of a digit: capitals alone, or either case
abbrev pub digit_by : (capital : Bool) → ℕ → ℕ
digit_by true = capital_of
digit_by false = digit_of

-- two numbers below `limit` as one, the first the higher; limit × limit if either is no such number
unfoldable pub joined : (limit high low : ℕ) → ℕ
joined limit high low = pick (ltb high limit) (pick (ltb low limit) (limit * high + low) (limit * limit)) (limit * limit)

-- the number of the two digits at a place; 256 where two digits do not stand there
unfoldable pub byte_by : (ℕ → ℕ) → List ℕ → ℕ → ℕ
byte_by digit s at = joined 16 (digit (get_or s at 0)) (digit (get_or s (at + 1) 0))

-- the number of the four digits at a place; 65,536 where four digits do not stand there
unfoldable pub word_by : (ℕ → ℕ) → List ℕ → ℕ → ℕ
word_by digit s at = joined 256 (byte_by digit s at) (byte_by digit s (at + 2))

-- the capital digit of a number below 16
unfoldable pub digit_text : ℕ → ℕ
digit_text n = pick (ltb n 10) (0x30 + n) (0x41 + (n - 10))

-- the two capital digits of a byte
unfoldable pub byte_text : ℕ → List ℕ
byte_text b = digit_text (b / 16) ∷ digit_text (b % 16) ∷ []

-- the four capital digits of a number of 16 bits
unfoldable pub word_text : ℕ → List ℕ
word_text w = byte_text (w / 256) ++ byte_text (w % 256)
