-- What one line does to a reading ('HEX text'; refusals 11, 2 to 9).
use Rattle.std.specs.Prelude.{ℕ, zero, suc, ◌+◌, ◌*◌, ◌/◌, Bool, true, false, Option, Some, None, List, eqb, length, get_or, set}
use Rattle.words.specs.Choice.{pick, unless}
use Rattle.words.specs.Word.{not_given, is_word}
use Rattle.words.specs.Address.{config_base, halved, entry_of}
use Rattle.words.specs.declared.ByteAddress.{ByteAddress}
use Rattle.words.specs.declared.WordAddress.{WordAddress}
use Rattle.device.specs.Memory.{reading_tail, programmable}
use Rattle.hexread.specs.Line.{byte_at, count_of, offset_of, type_of, line_number}

-- ---- the words of a data record

-- word j of a record, low byte first
unfoldable pub word_of : List ℕ → ℕ → ℕ
word_of line j = byte_at line (4 + 2 * j) + 256 * byte_at line (5 + 2 * j)

-- the address of its first byte, without wrap
unfoldable pub byte_address : (upper : ℕ) → List ℕ → ℕ → ByteAddress
byte_address upper line j = record { 0 = upper * 65536 + offset_of line + 2 * j }

-- the entry of an address; one past the last entry where there is no word
unfoldable pub entry_at : (words : ℕ) → Option WordAddress → ℕ
entry_at words (Some a) = entry_of config_base words reading_tail a.0
entry_at words None = words + reading_tail

unfoldable pub entry_of_word : (words upper : ℕ) → List ℕ → ℕ → ℕ
entry_of_word words upper line j = entry_at words (halved (byte_address upper line j))

-- 0 for a word that is given, or the first of 7, 8, 9 that holds
unfoldable pub word_number : (words upper : ℕ) → List ℕ → (image : List ℕ) → ℕ → ℕ
word_number words upper line image j =
    unless (programmable words (entry_of_word words upper line j)) 7
    (unless (is_word (word_of line j)) 8
    (unless (eqb (get_or image (entry_of_word words upper line j) not_given) not_given) 9
    0))

-- ---- a record, and a line

-- where a reading stands: the end record was seen, the upper half, the image so far, and a refusal or 0
pub record Reading : Type 0 where
  pub ended : Bool
  pub upper : ℕ
  pub image : List ℕ
  pub number : ℕ

-- the image takes word after word of a record, n of them from word j on, until one is refused
unfoldable pub give_words : (words upper : ℕ) → List ℕ → (image : List ℕ) → (j n : ℕ) → Reading
give_words words upper line image j zero = record { ended = false; upper = upper; image = image; number = 0 }
give_words words upper line image j (suc n) =
    unless (eqb (word_number words upper line image j) 0) (record { ended = false; upper = upper; image = image; number = word_number words upper line image j })
    (give_words words upper line (set image (entry_of_word words upper line j) (word_of line j)) (j + 1) n)

-- a sound record: data gives its words, 01 is the end, 04 sets the upper half
unfoldable pub record_step : (words : ℕ) → List ℕ → Reading → Reading
record_step words line r =
    pick (eqb (type_of line) 0) (give_words words r.upper line r.image 0 (count_of line / 2))
    (pick (eqb (type_of line) 1) (record { ended = true; upper = r.upper; image = r.image; number = 0 })
    (record { ended = false; upper = 256 * byte_at line 4 + byte_at line 5; image = r.image; number = 0 }))

-- a refusal of the line itself
unfoldable pub line_refused : ℕ → Reading → Reading
line_refused n r = record { ended = r.ended; upper = r.upper; image = r.image; number = n }

-- one line: an empty one is skipped; after the end record any other is 11; then 2 to 6; then the record
unfoldable pub line_step : (words : ℕ) → List ℕ → Reading → Reading
line_step words line r =
    pick (eqb (length line) 0) r
    (pick r.ended (line_refused 11 r)
    (unless (eqb (line_number line) 0) (line_refused (line_number line) r)
    (record_step words line r)))
