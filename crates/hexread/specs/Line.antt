-- One line of HEX text ('HEX text'; refusals 2 to 6). Text is a list of bytes.
use Rattle.std.specs.Prelude.{ℕ, zero, suc, ◌+◌, ◌*◌, ◌%◌, Bool, ◌&&◌, ◌||◌, not, List, ltb, eqb, length, get_or}
use Rattle.words.specs.Choice.{unless}
use Rattle.words.specs.Lists.{every}
use Rattle.numerals.specs.Hex.{digit_of, byte_by}

-- byte j of a line after its colon: LL, two of address, type, LL of data, sum
unfoldable pub byte_at : List ℕ → ℕ → ℕ
byte_at line j = byte_by digit_of line (1 + 2 * j)

unfoldable pub count_of : List ℕ → ℕ
count_of line = byte_at line 0

unfoldable pub offset_of : List ℕ → ℕ
offset_of line = 256 * byte_at line 1 + byte_at line 2

unfoldable pub type_of : List ℕ → ℕ
type_of line = byte_at line 3

-- a colon, and then 2(LL+5) hex digits and no more
unfoldable pub is_record : List ℕ → Bool
is_record line =
    eqb (get_or line 0 0) 0x3a
    && ltb (count_of line) 256
    && eqb (length line) (1 + 2 * (count_of line + 5))
    && every (count_of line + 5) (λ j. ltb (byte_at line j) 256)

-- the first n bytes added up
unfoldable pub bytes_to : ℕ → List ℕ → ℕ
bytes_to zero line = 0
bytes_to (suc n) line = bytes_to n line + byte_at line n

-- all bytes sum to 0 mod 256
unfoldable pub sum_ok : List ℕ → Bool
sum_ok line = eqb (bytes_to (count_of line + 5) line % 256) 0

-- data, end, or the upper address half
unfoldable pub type_ok : List ℕ → Bool
type_ok line = eqb (type_of line) 0 || eqb (type_of line) 1 || eqb (type_of line) 4

-- the end has no bytes, an upper half two, and either has address 0
unfoldable pub shape_ok : List ℕ → Bool
shape_ok line =
    eqb (type_of line) 0
    || (eqb (offset_of line) 0 && ((eqb (type_of line) 1 && eqb (count_of line) 0) || (eqb (type_of line) 4 && eqb (count_of line) 2)))

-- data has an even address and an even number of bytes
unfoldable pub data_ok : List ℕ → Bool
data_ok line = not (eqb (type_of line) 0) || (eqb (offset_of line % 2) 0 && eqb (count_of line % 2) 0)

-- 0 for a sound record, or the first of 2 to 6 that holds
unfoldable pub line_number : List ℕ → ℕ
line_number line =
    unless (is_record line) 2
    (unless (sum_ok line) 3
    (unless (type_ok line) 4
    (unless (shape_ok line) 5
    (unless (data_ok line) 6
    0))))
