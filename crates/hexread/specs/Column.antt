-- The column at which a line is refused ('Say which column'), counted from 1 in the line as the reader takes it.
use Rattle.std.specs.Prelude.{ℕ, zero, suc, ◌+◌, ◌*◌, ◌/◌, Bool, ◌&&◌, not, List, ltb, leb, eqb, length, get_or, set}
use Rattle.words.specs.Choice.{pick, unless}
use Rattle.words.specs.First.{first_to}
use Rattle.numerals.specs.Hex.{digit_of}
use Rattle.hexread.specs.Line.{count_of}
use Rattle.hexread.specs.Step.{word_of, entry_of_word, word_number, Reading, line_step}

-- ---- 2: a character

unfoldable pub is_digit : (character : ℕ) → Bool
is_digit character = ltb (digit_of character) 16

-- what can stand at place i, counted from 0: a colon, the two digits of LL, and then a digit as far as LL reaches
unfoldable pub can_stand : List ℕ → ℕ → Bool
can_stand line i =
    pick (eqb i 0) (eqb (get_or line i 0) 0x3a)
    (pick (ltb i 3) (is_digit (get_or line i 0))
    (is_digit (get_or line i 0) && ltb i (1 + 2 * (count_of line + 5))))

-- the first character that cannot stand in its place, or one past the line's end
unfoldable pub bad_column : List ℕ → ℕ
bad_column line = first_to (length line) (λ i. not (can_stand line i)) + 1

-- ---- 7, 8, 9: a word

-- the first word that is not given, of n words from word j on; past them all if each is given
unfoldable pub refused_word : (words upper : ℕ) → List ℕ → (image : List ℕ) → (j n : ℕ) → ℕ
refused_word words upper line image j zero = j
refused_word words upper line image j (suc n) =
    unless (eqb (word_number words upper line image j) 0) j
    (refused_word words upper line (set image (entry_of_word words upper line j) (word_of line j)) (j + 1) n)

-- the first digit of the low byte of word j
unfoldable pub word_column : ℕ → ℕ
word_column j = 10 + 4 * j

-- ---- any number

-- 2 stands at its character, 7 to 9 at their word, any other number at the whole line; 0 where nothing is refused
unfoldable pub column_of : (number : ℕ) → List ℕ → (word : ℕ) → ℕ
column_of number line word =
    pick (eqb number 0) 0
    (pick (eqb number 2) (bad_column line)
    (pick (leb 7 number && leb number 9) (word_column word)
    1))

-- the column of one line, where a reading stands at r
unfoldable pub line_column : (words : ℕ) → List ℕ → Reading → ℕ
line_column words line r =
    column_of (line_step words line r).number line (refused_word words r.upper line r.image 0 (count_of line / 2))
