-- Board sheets in both forms ('Sheets'; refusals 12, 13, 14; #106 with 18 and 19; #107 for line 1). Text is a list of bytes.
use Rattle.std.specs.Prelude.{ℕ, zero, suc, ◌+◌, ◌-◌, ◌*◌, ◌/◌, ◌%◌, Bool, true, ◌&&◌, List, [], ◌∷◌, ◌++◌, ltb, eqb, length, get_or}
use Rattle.words.specs.Choice.{pick, unless}
use Rattle.words.specs.Lists.{build}
use Rattle.numerals.specs.Text.{tab, lf}
use Rattle.numerals.specs.Hex.{capital_of, word_by, word_text}
use Rattle.words.specs.Address.{config_base}
use Rattle.device.specs.declared.Device.{Device}
use Rattle.device.specs.Record.{most_words, device_ok, fits}
use Rattle.device.specs.Memory.{reading_tail, reading_ok}
use Rattle.table.specs.Table.{name_ok}
use Rattle.judge.specs.Checksum.{checksum_of}
use Rattle.sheet.specs.FirstLine.{same_text, old_line, new_line, id_in, is_new, name_in, sum_in, line_ok, rest_in}

-- ---- what is written

-- the fields of `count` words from entry i on, a tab before each
unfoldable pub fields : (count i : ℕ) → List ℕ → List ℕ
fields zero i l = []
fields (suc n) i l = tab ∷ (word_text (get_or l i 0) ++ fields n (i + 1) l)

-- a line: an address, words from entry i on, LF
unfoldable pub line_text : (address count i : ℕ) → List ℕ → List ℕ
line_text address count i l = word_text address ++ (fields count i l ++ lf ∷ [])

-- n lines of eight program words each, the first of them line k
unfoldable pub program_lines : (n k : ℕ) → List ℕ → List ℕ
program_lines zero k l = []
program_lines (suc n) k l = line_text (8 * k) 8 (8 * k) l ++ program_lines n (k + 1) l

-- the lines after line 1: the program words, eight a line; last a line 8000 with nine words
unfoldable pub body_text : (words : ℕ) → List ℕ → List ℕ
body_text words l = program_lines (words / 8) 0 l ++ line_text config_base reading_tail words l

-- a sheet in the old form
unfoldable pub sheet_with : (id : ℕ) → Device → List ℕ → List ℕ
sheet_with id d l = old_line id ++ body_text d.words l

-- a sheet in the new form
unfoldable pub new_with : (id : ℕ) (name : List ℕ) (sum : ℕ) → Device → List ℕ → List ℕ
new_with id name sum d l = new_line id name sum ++ body_text d.words l

-- the most lines of program words
abbrev pub most_program_lines : ℕ
most_program_lines = most_words / 8

-- the length of the lines after line 1
unfoldable pub body_length : (words : ℕ) → ℕ
body_length words = 45 * (words / 8) + 50

-- ---- what is read

-- where the digits of word i stand in these lines
unfoldable pub digits_at : (words i : ℕ) → ℕ
digits_at words i = pick (ltb i words) (45 * (i / 8) + 5 * (i % 8) + 5) (45 * (words / 8) + 5 * (i - words) + 5)

-- the words that stand there
unfoldable pub body_words : (words : ℕ) → List ℕ → List ℕ
body_words words body = build (words + reading_tail) (λ i. word_by capital_of body (digits_at words i))

-- the lines are those of a sheet if the words in them are a reading, and they are just what is written of it
unfoldable pub body_ok : (words : ℕ) → List ℕ → Bool
body_ok words body = reading_ok words (body_words words body) && same_text body (body_text words (body_words words body))

-- the words of a sheet
unfoldable pub words_in : (words : ℕ) → List ℕ → List ℕ
words_in words text = body_words words (rest_in text)

-- a sheet of either form: line 1 is of one of them and its ID fits the record, and the other lines are those of a sheet
unfoldable pub sheet_ok : Device → List ℕ → Bool
sheet_ok d text = line_ok text && fits d (id_in text) && body_ok d.words (rest_in text)

-- its name is the record's; the old form has none
unfoldable pub name_holds : (name text : List ℕ) → Bool
name_holds name text = pick (is_new text) (same_text (name_in text) name) true

-- its sum is the checksum of its words; the old form has none
unfoldable pub sum_holds : Device → List ℕ → Bool
sum_holds d text = pick (is_new text) (eqb (sum_in text) (checksum_of d (words_in d.words text))) true

-- ---- answers

-- a sheet under a record with this name: 14, 18, 19
unfoldable pub sheet_number : Device → (name text : List ℕ) → ℕ
sheet_number d name text =
    unless (sheet_ok d text) 14
    (unless (name_holds name text) 18
    (unless (sum_holds d text) 19
    0))

-- the reader: 13, 12, and then these
unfoldable pub read_number : Device → (name text buffer : List ℕ) → ℕ
read_number d name text buffer =
    unless (device_ok d && name_ok name) 13
    (unless (eqb (length buffer) (d.words + reading_tail)) 12
    (sheet_number d name text))

-- a refused sheet leaves the buffer
unfoldable pub read_buffer : Device → (name text buffer : List ℕ) → List ℕ
read_buffer d name text buffer = pick (eqb (read_number d name text buffer) 0) (words_in d.words text) buffer
