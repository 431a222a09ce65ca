-- The device table ('The device table'; refusals 15 and 16; #107 for the ID's mask). Text is a list of bytes.
use Rattle.std.specs.Prelude.{ℕ, ◌+◌, Bool, true, false, Result, Ok, Err, ◌&&◌, ◌||◌, not, List, [], ◌∷◌, ltb, leb, eqb, length, get_or, take, drop}
use Rattle.std.specs.Int.Bits.{bit_and}
use Rattle.words.specs.Choice.{pick, unless}
use Rattle.words.specs.Word.{erased}
use Rattle.numerals.specs.Text.{tab, lf, split}
use Rattle.numerals.specs.Hex.{within, capital_of, word_by}
use Rattle.numerals.specs.Decimal.{is_decimal, value_of}
use Rattle.device.specs.declared.Device.{Device}
use Rattle.refusal.specs.Refusal.{number_of}
use Rattle.refusal.specs.declared.Refusal.{Refusal}
use Rattle.table.specs.declared.Found.{Found as Place}
use Rattle.device.specs.Record.{most_words, device_up_to, fits}

-- ---- lines

-- all pieces but the last
unfoldable pub but_last : List (List ℕ) → List (List ℕ)
but_last [] = []
but_last (p ∷ []) = []
but_last (p ∷ q ∷ ps) = p ∷ but_last (q ∷ ps)

-- the last piece
unfoldable pub last_of : List (List ℕ) → List ℕ
last_of [] = []
last_of (p ∷ []) = p
last_of (p ∷ q ∷ ps) = last_of (q ∷ ps)

-- ---- a line

-- field k of a line, the first is 0; nothing where the line has fewer fields
unfoldable pub field : ℕ → List ℕ → List ℕ
field k line = get_or (split tab line) k []

-- every character is from 20h to 7Eh
unfoldable pub all_printable : List ℕ → Bool
all_printable [] = true
all_printable (c ∷ l) = within 0x20 0x7e c && all_printable l

-- a name: 1 to 16 characters, 20h to 7Eh
unfoldable pub name_ok : List ℕ → Bool
name_ok f = leb 1 (length f) && leb (length f) 16 && all_printable f

-- the number of a field of four capital hex digits; 65,536 if it is no such field
unfoldable pub hex_field : List ℕ → ℕ
hex_field f = pick (eqb (length f) 4) (word_by capital_of f 0) 65536

unfoldable pub hex_ok : List ℕ → Bool
hex_ok f = ltb (hex_field f) 65536

-- the ID that a line gives
unfoldable pub id_of : List ℕ → ℕ
id_of line = hex_field (field 1 line)

-- and the ID's mask: the last of seven fields, every bit otherwise
unfoldable pub id_mask_of : List ℕ → ℕ
id_mask_of line = pick (eqb (length (split tab line)) 7) (hex_field (field 6 line)) erased

-- a line's fields: name, ID, program words, row words, mask 1, mask 2, and the ID's mask
unfoldable pub device_of : List ℕ → Device
device_of line =
    record {
      id = id_of line;
      words = value_of (field 2 line);
      row = value_of (field 3 line);
      mask1 = hex_field (field 4 line);
      mask2 = hex_field (field 5 line);
      idmask = id_mask_of line;
    }

-- six fields, or seven with the ID's mask last
unfoldable pub count_ok : List ℕ → Bool
count_ok line = eqb (length (split tab line)) 6 || (eqb (length (split tab line)) 7 && hex_ok (field 6 line))

-- so many fields, each of its kind, and a device that keeps the rules of a record with so many program words at most
unfoldable pub line_up_to : (most : ℕ) → List ℕ → Bool
line_up_to most line =
    count_ok line
    && name_ok (field 0 line)
    && hex_ok (field 1 line)
    && is_decimal (field 2 line)
    && is_decimal (field 3 line)
    && hex_ok (field 4 line)
    && hex_ok (field 5 line)
    && device_up_to most (device_of line)

-- ---- the table

-- the lines of a text, each without the LF that ends it
unfoldable pub table_lines : List ℕ → List (List ℕ)
table_lines text = but_last (split lf text)

-- each line ends in LF: nothing follows the last one
unfoldable pub ends_in_lf : List ℕ → Bool
ends_in_lf text = eqb (length (last_of (split lf text))) 0

unfoldable pub lines_up_to : (most : ℕ) → List (List ℕ) → Bool
lines_up_to most [] = true
lines_up_to most (l ∷ ls) = line_up_to most l && lines_up_to most ls

-- two devices clash if their IDs agree wherever both masks have 1
unfoldable pub clash : Device → Device → Bool
clash d e = eqb (bit_and d.id (bit_and d.idmask e.idmask)) (bit_and e.id (bit_and d.idmask e.idmask))

-- one of the lines gives a device that clashes with this one
unfoldable pub clashes : Device → List (List ℕ) → Bool
clashes d [] = false
clashes d (l ∷ ls) = clash d (device_of l) || clashes d ls

-- no two lines clash
unfoldable pub ids_once : List (List ℕ) → Bool
ids_once [] = true
ids_once (l ∷ ls) = not (clashes (device_of l) ls) && ids_once ls

-- the most lines
abbrev pub most_lines : ℕ
most_lines = 64

-- each line ends in LF, 1 to 64 lines, each a device's with so many program words at most, no two that clash
unfoldable pub table_up_to : (most : ℕ) → List ℕ → Bool
table_up_to most text =
    ends_in_lf text
    && leb 1 (length (table_lines text))
    && leb (length (table_lines text)) most_lines
    && lines_up_to most (table_lines text)
    && ids_once (table_lines text)

-- a table that is not malformed
unfoldable pub table_ok : List ℕ → Bool
table_ok text = table_up_to most_words text

-- what the call that judges a table answers
unfoldable pub table_number : List ℕ → ℕ
table_number text = unless (table_ok text) 15 0

-- ---- the record of an ID

-- one of the lines gives a device that the ID fits
unfoldable pub has_id : ℕ → List (List ℕ) → Bool
has_id id [] = false
has_id id (l ∷ ls) = fits (device_of l) id || has_id id ls

-- the first such line
unfoldable pub line_with : ℕ → List (List ℕ) → List ℕ
line_with id [] = []
line_with id (l ∷ ls) = pick (fits (device_of l) id) l (line_with id ls)

-- where that line begins: after each line before it and its LF
unfoldable pub start_of : ℕ → List (List ℕ) → ℕ
start_of id [] = 0
start_of id (l ∷ ls) = pick (fits (device_of l) id) 0 (length l + 1 + start_of id ls)

-- what is answered of an ID: a number, its record, and the place of its name in the text
pub record Found : Type 0 where
  pub number : ℕ
  pub device : Device
  pub name_at : ℕ
  pub name_len : ℕ

-- a refusal names nothing else
unfoldable pub refused : ℕ → Found
refused n = record { number = n; device = record { id = 0; words = 0; row = 0; mask1 = 0; mask2 = 0; idmask = 0 }; name_at = 0; name_len = 0 }

-- the record that a line gives, and the place of its name in the text
unfoldable pub given : (at : ℕ) → List ℕ → Found
given at line = record { number = 0; device = device_of line; name_at = at; name_len = length (field 0 line) }

-- what is found of an ID in a table of devices with so many program words at most
unfoldable pub found_up_to : (most : ℕ) → List ℕ → ℕ → Found
found_up_to most text id =
    unless (table_up_to most text) (refused 15)
    (unless (has_id id (table_lines text)) (refused 16)
    (given (start_of id (table_lines text)) (line_with id (table_lines text))))

-- what the call that finds an ID's record answers
unfoldable pub found_in : List ℕ → ℕ → Found
found_in text id = found_up_to most_words text id

-- the name of what was found, as it stands in the table's text
unfoldable pub name_at : (text : List ℕ) → Found → List ℕ
name_at text f = take f.name_len (drop f.name_at text)

-- the answer of the call that finds an ID's record
abbrev pub found_told : Result Place Refusal → Found
found_told (Ok f) = record { number = 0; device = f.device; name_at = f.name_at; name_len = f.name_len }
found_told (Err e) = refused (number_of e)
